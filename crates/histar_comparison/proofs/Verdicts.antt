-- The verdict on two observed runs is that of their script.
use Rattle.std.proofs.Common.{◌≡◌, ℕ, Bool, true, false, List, [], ◌∷◌, ◌++◌, map, cond, Result, Ok, Err, refl, sym, ap, ◌∙◌, append-nil}
use Rattle.std.proofs.Common.{append_assoc}
use Rattle.std.specs.Prelude.{◌&&◌, ◌||◌, is_some, not, filter, None, Option, Some}
use Rattle.std.specs.List.{AllByRecursion}
use Rattle.std.proofs.Math.Bool.{or-false, or_assoc}
use Rattle.std.proofs.lemmas.Bool.{true≢false}
use Rattle.histar_flat.specs.declared.calls.CallLine.{CallLine}
use Rattle.histar_flat.specs.Words.{ProcName}
use Rattle.histar_flat.specs.PathOrder.{under_process}
use Rattle.histar_flat.specs.Calls.{IsCall}
use Rattle.histar_shell.specs.Meaning.{last_state}
use Rattle.histar_shell.proofs.Users.{script_says}
use Rattle.histar_flat.specs.Meaning.{RepliedCall, meaning, without}
use Rattle.histar_script.specs.declared.fault.Fault.{Fault}
use Rattle.histar_script.specs.Script.{ScriptModel, without_job}
use Rattle.histar_script.specs.Reading.{script_of}
use Rattle.histar_noninterference.specs.declared.verdict.Verdict.{Verdict}
use Rattle.histar_noninterference.specs.declared.verdict.Verdict.TheVariants.{NoJob, Same}
use Rattle.histar_noninterference.specs.Comparison.{first_line, is_outsider, is_wrap_reply, line_verdict, outsiders, starts, tree_verdict, verdict}
use Rattle.histar_noninterference.specs.Following.{directory_of}
use Rattle.histar_noninterference.specs.Isolation.{OnlyReleasesDiffer, after_start, first_release, may_reveal, revealing}
use Rattle.histar_noninterference.specs.Trees.{FindsFirstPath, first_difference, is_below_either, tree_lines}
use Rattle.histar_noninterference.specs.Replies.{first_shown, shown}
use Rattle.histar_noninterference.proofs.ShownReplies.{finds_first_line}
use Rattle.histar_comparison.specs.Replies.{RepliesModel, no_replies, with_reply, with_replies, with_shown}
use Rattle.histar_comparison.specs.Observation.{CanRun, ObservationModel, observation}
use Rattle.histar_comparison.specs.Compared.{difference, verdict_of, comparison, IsQuietScript}
use Rattle.histar_comparison.specs.Explained.{has_difference}

-- of calls of which each passes, those that are left pass
left_pass : {A : Type 0} (P : A → Type 0) (test : A → Bool) (xs : List A) → AllByRecursion P xs → AllByRecursion P (filter test xs)
left_pass P test [] h = tt
left_pass P test (x ∷ xs) h = by (test x) (left_pass P test xs h.1)
  where
    by : (b : Bool) → AllByRecursion P (filter test xs) → AllByRecursion P (cond b (x ∷ filter test xs) (filter test xs))
    by true rest = (h.0, rest)
    by false rest = rest

-- a test that holds chooses the first verdict
chosen : (b : Bool) (x y : Verdict) → b ≡ true → cond b x y ≡ x
chosen b x y e = ap (λ (t : Bool). cond t x y) e

-- a test that fails chooses the second verdict
other : (b : Bool) (x y : Verdict) → b ≡ false → cond b x y ≡ y
other b x y e = ap (λ (t : Bool). cond t x y) e

-- what was answered well is what was meant
pub ok_inner : {A : Type 0} {x y : A} → ◌≡◌ {A = Result A Fault} (Ok x) (Ok y) → x ≡ y
ok_inner {A} {x} e = ap (λ (r : Result A Fault). elim r [ Ok z ↦ z | Err f ↦ x ]) e

-- a text is one script
pub read_again : (text : List ℕ) (a b : ScriptModel) → script_of text ≡ Ok a → script_of text ≡ Ok b → b ≡ a
read_again text a b is again = ok_inner (sym again ∙ is)

module _ (job : ProcName) where
  -- whether a `wrap` started the job was kept
  started : (r : RepliesModel) (answers : List RepliedCall) → (with_replies job r answers).is_started ≡ (r.is_started || starts job answers)
  started r [] = sym (or-false r.is_started)
  started r (a ∷ answers) = started (with_reply job r a) answers ∙ or_assoc r.is_started (is_wrap_reply job a.call.call a.reply) (starts job answers)

  -- the directory was followed
  directory : (r : RepliesModel) (answers : List RepliedCall) → (with_replies job r answers).directory ≡ directory_of job r.directory answers
  directory r [] = refl
  directory r (a ∷ answers) = directory (with_reply job r a) answers

  -- the replies to outsiders were kept
  pub kept : (r : RepliesModel) (answers : List RepliedCall) → (with_replies job r answers).shown ≡ r.shown ++ map shown (outsiders job answers)
  kept r [] = sym (append-nil r.shown)
  kept r (a ∷ answers) = kept (with_reply job r a) answers ∙ by (is_outsider job a.call.process)
    where
      by : (b : Bool)
          → (cond b (r.shown ++ shown a ∷ []) r.shown) ++ map shown (outsiders job answers)
          ≡ r.shown ++ map shown (cond b (a ∷ outsiders job answers) (outsiders job answers))
      by true = append_assoc r.shown (shown a ∷ []) (map shown (outsiders job answers))
      by false = refl

  -- the replies by which the process that started the job can reveal it were kept
  revealed : (r : RepliesModel) (answers : List RepliedCall) → (with_replies job r answers).revealing
      ≡ r.revealing ++ map shown (cond r.is_started (filter (may_reveal job) answers) (revealing job answers))
  revealed r [] = sym (append-nil r.revealing) ∙ ap (λ (l : List RepliedCall). r.revealing ++ map shown l) (sym (either r.is_started))
    where
      either : (b : Bool) → (let l : List RepliedCall = cond b [] [] in l) ≡ []
      either true = refl
      either false = refl
  revealed r (a ∷ answers) =
      revealed (with_reply job r a) answers ∙ by r.is_started (is_wrap_reply job a.call.call a.reply) (may_reveal job a)
    where
      later : List RepliedCall
      later = filter (may_reveal job) answers

      by : (b w may : Bool) → with_shown (b && may) r.revealing a.call.line a.reply ++ map shown (cond (b || w) later (revealing job answers))
          ≡ r.revealing ++ map shown (cond b (cond may (a ∷ later) later) (filter (may_reveal job) (cond w answers (after_start job answers))))
      by true w true = append_assoc r.revealing (shown a ∷ []) (map shown later)
      by true w false = refl
      by false true may = refl
      by false false may = refl

  -- the first line that released what the job made was found
  pub released_is : (script : ScriptModel)
      → first_shown (observation job script).replies.revealing (observation job (without_job job script)).replies.revealing
      ≡ first_release script.accounts script.calls job
  released_is script =
      let as' = meaning script.accounts script.calls in
      let bs = meaning script.accounts (without_job job script).calls in
      (λ i. first_shown (revealed no_replies as' i) (revealed no_replies bs i)) ∙ sym (finds_first_line (revealing job as') (revealing job bs))

  -- where no `wrap` started the job, nothing comes after its start
  none_after : (answers : List RepliedCall) → starts job answers ≡ false → after_start job answers ≡ []
  none_after [] h = refl
  none_after (a ∷ answers) h = by (is_wrap_reply job a.call.call a.reply) h (none_after answers)
    where
      by : (b : Bool) → (b || starts job answers) ≡ false → (starts job answers ≡ false → after_start job answers ≡ [])
          → cond b answers (after_start job answers) ≡ []
      by true h rest = absurd (true≢false h)
      by false h rest = rest h

  -- what is left of a script can be run
  pub rest_runs : (script : ScriptModel) → CanRun script → CanRun (without_job job script)
  rest_runs script can =
      record {
        declared = can.declared;
        calls = left_pass (λ (c : CallLine). IsCall c.call)
            (λ (c : CallLine). not (under_process job c.process)) script.calls can.calls;
      }

  -- a `wrap` started the job where that was kept
  starts_as : (script : ScriptModel) (b : Bool) → (observation job script).replies.is_started ≡ b
      → starts job (meaning script.accounts script.calls) ≡ b
  starts_as script b e = sym (started no_replies (meaning script.accounts script.calls)) ∙ e

  -- where no `wrap` started the job, that is the verdict
  no_job : (script : ScriptModel) → (observation job script).replies.is_started ≡ false → verdict script.accounts script.calls job ≡ NoJob
  no_job script none = other (starts job (meaning script.accounts script.calls)) _ NoJob (starts_as script false none)

  -- and no line releases what it made
  pub none_released : (script : ScriptModel) → (observation job script).replies.is_started ≡ false
      → None ≡ first_release script.accounts script.calls job
  none_released script none =
      ap (λ (as' : List RepliedCall). first_line (filter (may_reveal job) as') (revealing job (meaning script.accounts (without job script.calls))))
      (sym (none_after (meaning script.accounts script.calls) (starts_as script false none)))

  -- where outsiders see a difference, a line released what the job made
  pub difference_released : OnlyReleasesDiffer → (script : ScriptModel) → (observation job script).replies.is_started ≡ true
      → has_difference (verdict script.accounts script.calls job) ≡ true → is_some (first_release script.accounts script.calls job) ≡ true
  difference_released isolates script some differs = by (first_release script.accounts script.calls job) refl
    where
      by : (o : Option ℕ) → first_release script.accounts script.calls job ≡ o → is_some o ≡ true
      by None e =
          absurd (true≢false (sym differs ∙ ap has_difference (isolates script.accounts script.calls job (starts_as script true some) e)))
      by (Some n) e = refl

  -- if the replies don't differ, the verdict is that of the trees
  found : FindsFirstPath → (script : ScriptModel) → (observation job script).replies.is_started ≡ true
      → difference (observation job script) (observation job (without_job job script))
      ≡ verdict script.accounts script.calls job
  found finds script some =
      let rest = without_job job script in
      let as' = meaning script.accounts script.calls in
      let bs = meaning script.accounts rest.calls in
      let lines = (λ i. first_shown (kept no_replies as' i) (kept no_replies bs i)) ∙ sym (finds_first_line (outsiders job as') (outsiders job bs)) in
      let trees =
      (λ i. first_difference (is_below_either (directory no_replies as' i) (directory no_replies bs i))
      (tree_lines (last_state script)) (tree_lines (last_state rest)))
      ∙ sym (finds script.accounts script.calls rest.calls job) in
      (λ i. line_verdict (lines i) (tree_verdict (trees i))) ∙ sym (chosen (starts job as') _ NoJob (starts_as script true some))

  module _ (text : List ℕ) (script : ScriptModel) (is_read : script_of text ≡ Ok script) where
    -- the script can be run
    pub can_run : CanRun script
    can_run = let says = script_says text script is_read in record { declared = says.0; calls = says.1 }

    -- a text is compared as the script that it is
    compared : (v : Verdict) → verdict script.accounts script.calls job ≡ v → comparison job text ≡ Ok v
    compared v e = ap (verdict_of job) is_read ∙ ap (λ (x : Verdict). Ok x) e

    -- no `wrap` started the job
    pub compared_none : (seen : ObservationModel) → seen ≡ observation job script → seen.replies.is_started ≡ false → comparison job text ≡ Ok NoJob
    compared_none seen is none = compared NoJob (no_job script (sym (ap (λ (o : ObservationModel). o.replies.is_started) is) ∙ none))

    -- a `wrap` started the job
    pub compared_found : FindsFirstPath → (first second : ObservationModel) → first ≡ observation job script
        → second ≡ observation job (without_job job script) → first.replies.is_started ≡ true
        → (v : Verdict) → v ≡ difference first second → comparison job text ≡ Ok v
    compared_found finds first second is are some v found_in =
        compared v (sym (found_in ∙ (λ i. difference (is i) (are i))
        ∙ found finds script (sym (ap (λ (o : ObservationModel). o.replies.is_started) is) ∙ some)))

  -- the verdict of a quiet script is that nothing differs
  pub quiet_is_same : OnlyReleasesDiffer → (text : List ℕ) (v : Verdict) → IsQuietScript job text → comparison job text ≡ Ok v → v ≡ Same
  quiet_is_same isolates text v quiet e =
      let same : Ok v ≡ Ok (verdict quiet.script.accounts quiet.script.calls job) = sym e ∙ ap (verdict_of job) quiet.is_read in
      ok_inner same ∙ isolates quiet.script.accounts quiet.script.calls job quiet.starts quiet.quiet
