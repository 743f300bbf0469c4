-- What was seen of two runs is what they print where their script's verdict says that they differ.
use Rattle.std.proofs.Common.{◌≡◌, ℕ, List, [], ◌∷◌, map, Result, Ok, refl, sym, ap, ◌∙◌}
use Rattle.std.specs.Prelude.{◌==◌, is_some, true, Option, if◌then◌else◌}
use Rattle.histar_flat.specs.Words.{ProcName}
use Rattle.histar_flat.specs.Texts.{reply_text}
use Rattle.histar_flat.specs.Meaning.{RepliedCall, meaning, without}
use Rattle.histar_script.specs.declared.fault.Fault.{Fault}
use Rattle.histar_script.specs.Script.{ScriptModel, without_job}
use Rattle.histar_script.specs.Reading.{script_of}
use Rattle.histar_noninterference.specs.declared.verdict.Verdict.{Verdict}
use Rattle.histar_noninterference.specs.declared.verdict.Verdict.TheVariants.{Same, NoJob, Line, Tree}
use Rattle.histar_noninterference.specs.Comparison.{outsiders, verdict}
use Rattle.histar_noninterference.specs.Isolation.{first_release}
use Rattle.histar_noninterference.specs.Replies.{first_shown, shown}
use Rattle.histar_noninterference.proofs.Isolated.{only_releases_differ}
use Rattle.histar_noninterference.proofs.TreeLines.{finds_first_path}
use Rattle.histar_comparison.specs.declared.explained.Explained.{Explained}
use Rattle.histar_comparison.specs.Observation.{ObservationModel, observation}
use Rattle.histar_comparison.specs.Replies.{no_replies}
use Rattle.histar_comparison.specs.Compared.{comparison, difference, verdict_of}
use Rattle.histar_comparison.specs.Explained.{IsReleased, explained_difference, explanation, explanation_of, has_difference, kept_on, printed_of}
use Rattle.histar_comparison.specs.Explained.{reply_on, seen_of}
use Rattle.histar_comparison.proofs.Verdicts.{compared_found, difference_released, kept, ok_inner, released_is}

module _ (job : ProcName) where
  -- the reply that was kept is the one that is printed
  kept_reply : (answers : List RepliedCall) (n : ℕ) → kept_on n (map shown answers) ≡ reply_on n answers
  kept_reply [] n = refl
  kept_reply (a ∷ answers) n = ap (λ (rest : List ℕ). if a.call.line == n then reply_text a.reply else rest) (kept_reply answers n)

  -- what was seen of a run is what it prints
  pub seen_printed : (script : ScriptModel) (v : Verdict) → seen_of (observation job script) v ≡ printed_of job script.accounts script.calls v
  seen_printed script Same = refl
  seen_printed script NoJob = refl
  seen_printed script (Line n) =
      ap (kept_on n) (kept job no_replies (meaning script.accounts script.calls))
      ∙ kept_reply (outsiders job (meaning script.accounts script.calls)) n
  seen_printed script (Tree q) = refl

  module _ (text : List ℕ) (script : ScriptModel) (is_read : script_of text ≡ Ok script) where
    -- the verdict of the script is the one that was found
    pub verdict_is : (v : Verdict) → comparison job text ≡ Ok v → verdict script.accounts script.calls job ≡ v
    verdict_is v e = ok_inner (sym (ap (verdict_of job) is_read) ∙ e)

    -- the text has this explanation
    pub explained_as : (v : Verdict) (a b : List ℕ) (line : Option ℕ) → verdict script.accounts script.calls job ≡ v
        → a ≡ printed_of job script.accounts script.calls v → b ≡ printed_of job script.accounts (without job script.calls) v
        → line ≡ first_release script.accounts script.calls job
        → explanation job text ≡ Ok (record { verdict = v; with_job = a; without_job = b; released = line })
    explained_as v a b line is first second release =
        ap (explanation_of job) is_read
        ∙ ap (λ (x : Verdict). explained_by x (printed_of job script.accounts script.calls x)
        (printed_of job script.accounts (without job script.calls) x) (first_release script.accounts script.calls job)) is
        ∙ (λ i. explained_by v (sym first i) (sym second i) (sym release i))
      where
        explained_by : Verdict → List ℕ → List ℕ → Option ℕ → Result Explained Fault
        explained_by x p q r = Ok (record { verdict = x; with_job = p; without_job = q; released = r })

    -- where two observed runs differ for outsiders, a line released what the job made
    pub released_found : (first second : ObservationModel) → first ≡ observation job script → second ≡ observation job (without_job job script)
        → first.replies.is_started ≡ true → IsReleased (explained_difference first second)
    released_found first second is are some differs =
        let seen = sym (ap (λ (o : ObservationModel). o.replies.is_started) is) ∙ some in
        let v = difference first second in
        let found = verdict_is v (compared_found job text script is_read finds_first_path first second is are some v refl) in
        ap is_some ((λ i. first_shown (is i).replies.revealing (are i).replies.revealing) ∙ released_is job script)
        ∙ difference_released job only_releases_differ script seen (ap has_difference found ∙ differs)
