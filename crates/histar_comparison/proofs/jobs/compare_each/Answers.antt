-- Proves the goals of `compare_each` of src/jobs.rt, which the search is slow to find.
use Rattle.std.proofs.Common.{◌≡◌, ℕ, ◌+◌, List, [], ◌∷◌, ◌++◌, Ok, map, take, refl, sym, ap, ap₂, ◌∙◌}
use Rattle.std.proofs.lemmas.List.{map_push, take_more, take_all}
use Rattle.histar_flat.specs.Words.{ProcName}
use Rattle.histar_flat.specs.Meaning.{RepliedCall}
use Rattle.histar_script.specs.Reading.{script_of}
use Rattle.histar_script.specs.Script.{ScriptModel}
use Rattle.histar_comparison.specs.declared.explained.Explained.{Explained}
use Rattle.histar_comparison.specs.declared.jobs.JobVerdict.{JobVerdict}
use Rattle.histar_comparison.specs.Explained.{explained, explanation, explanation_of}
use Rattle.histar_comparison.specs.Jobs.{job_verdict, jobs_started, verdicts_of}
use Rattle.histar_comparison.specs.Replies.{no_replies, with_replies}
use Rattle.histar_comparison.specs.Whole.{answered}
use Rattle.histar_comparison.proofs.jobs.compare_each.Goals as goal

-- what is found without a job is its verdict
found_is : (script : ScriptModel) (job : ProcName) (text : List ℕ) (found : Explained) → script_of text ≡ Ok script
    → explanation job text ≡ Ok found → found ≡ explained job script
found_is script job text found read given =
    let same : explanation_of job (Ok script) ≡ Ok found = sym (ap (explanation_of job) read) ∙ given in cc

-- the verdicts on one job more
one_more : (script : ScriptModel) (text : List ℕ) (jobs : List ProcName) (i : ℕ) (job : ProcName) (found : Explained)
    (old new : List JobVerdict) → explanation job text ≡ Ok found → take (i + 1) jobs ≡ take i jobs ++ job ∷ []
    → script_of text ≡ Ok script → old ≡ map (job_verdict script) (take i jobs) → new ≡ old ++ record { job = job; found = found } ∷ []
    → new ≡ map (job_verdict script) (take (i + 1) jobs)
one_more script text jobs i job found old new given more read is added =
    added
    ∙ ap₂ (λ (verdicts : List JobVerdict) (one : Explained). verdicts ++ record { job = job; found = one } ∷ []) is
    (found_is script job text found read given)
    ∙ sym (ap (λ (all : List ProcName). map (job_verdict script) all) more ∙ map_push (job_verdict script) (take i jobs) job)

pub jobs-init : goal.jobs-init
jobs-init g c = (refl, λ script read. c.new-verdicts.ensures.items)

pub explain_against-found-requires : goal.explain_against-found-requires
explain_against-found-requires g c =
    let run = c.requires in
    let answers = (λ i. answered (run.calls_are i) (c.as_slice-replies.ensures.value i)) ∙ run.is.replies in
    let replies = c.in_ok-replies_kept.ensures.ok ∙ ap (λ (as' : List RepliedCall). with_replies c.job-item.result no_replies as') answers in
    let tree = c.jobs.invariant.0 ∙ run.is.tree in
    record { script = run.script; is_read = run.is_read; is = λ i. record { replies = replies i; tree = tree i } }

pub jobs-preserved : goal.jobs-preserved
jobs-preserved g c = (
  c.jobs.invariant.0,
  λ script read.
      let jobs = c.deref-job-items.result.now in
      let job = c.job-item.result in
      let more = take_more jobs c.jobs.job-index job c.jobs-test.true
      ∙ ap (λ (one : ProcName). take c.jobs.job-index jobs ++ one ∷ []) (sym c.job-item.is) in
      one_more script c.args.text.now jobs c.jobs.job-index job c.in_ok-found.field-0 c.jobs.verdicts.items _
      c.in_ok-found.ensures.exact more read (c.jobs.invariant.1 script read) c.in_ok-push.ensures.items,
)

pub returns-clause-exact : goal.returns-clause-exact
returns-clause-exact g c =
    let run = c.requires in
    let script = run.script in
    let answers = (λ i. answered (run.calls_are i) (c.as_slice-replies.ensures.value i)) ∙ run.is.replies in
    ap verdicts_of run.is_read
    ∙ ap (λ (verdicts : List JobVerdict). Ok verdicts) (sym (c.jobs.invariant.1 script run.is_read
    ∙ ap (λ jobs. map (job_verdict script) jobs) (take_all c.jobs.job-index c.deref-job-items.result.now c.jobs-test.false
    ∙ c.deref-job-items.ensures.value ∙ c.in_ok-jobs.ensures.ok ∙ ap jobs_started answers)))
