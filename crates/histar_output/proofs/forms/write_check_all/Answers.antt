-- Proves the goals of `write_check_all` of src/forms.rt that the search leaves open.
use Rattle.std.proofs.Common.{◌≡◌, ◌∷◌, ◌++◌, ℕ, [], List, Some, None, sym, ap, ◌∙◌, append_assoc, subst, codes}
use Rattle.std.specs.Option.{option_copied}
use Rattle.std.proofs.lemmas.Result.{on_ok_weaker}
use Rattle.json.specs.Token.{Token, key, string, end_object}
use Rattle.json.specs.Tree.{members_tokens}
use Rattle.histar_output.specs.Cuts.{cut_at}
use Rattle.histar_output.specs.Forms.{check_parts}
use Rattle.histar_output.specs.Parts.{Part, members_of}
use Rattle.histar_output.specs.Written.{Adds}
use Rattle.histar_output.proofs.MemberLemmas.{job_alone, with_job}
use Rattle.histar_output.proofs.forms.write_check_all.Goals as goal
use Rattle.histar_output.proofs.forms.write_check_all.Goals.{In_ok-string}

-- what was written of the job
job_is : (c : In_ok-string)
    → c.string.new.self.tokens ≡ c.args.writer.now.tokens ++ key (codes "job") ∷ string (cut_at (codes " ") c.args.line.now).0 ∷ []
job_is c =
    let old = c.args.writer.now.tokens in
    c.in_ok-string.ensures.ok ∙ ap (λ (ts : List Token). ts ++ string c.cut_at.result.0.now ∷ []) c.in_ok-key.ensures.ok
    ∙ append_assoc old (key (codes "job") ∷ []) (string c.cut_at.result.0.now ∷ [])
    ∙ ap (λ (word : List ℕ). old ++ key (codes "job") ∷ string word ∷ []) c.cut_at.ensures.before

-- what was written before it is kept
before_is : (c : In_ok-string) → c.string.new.self.before ≡ c.args.writer.now.before
before_is c = c.in_ok-string.ensures.room.0 ∙ c.in_ok-key.ensures.room.0

pub returns-in-None : goal.returns-in-None
returns-in-None c =
    let job = (goal.at.returns-in-None c).In_ok-string in
    let old = c.args.writer.now.tokens in
    let word = (cut_at (codes " ") c.args.line.now).0 in
    let none : None ≡ (cut_at (codes " ") c.args.line.now).1 = sym (ap option_copied c.in-None.is) ∙ c.cut_at.ensures.behind in
    on_ok_weaker c.end_object.result
    (λ is. (
      c.end_object.ensures.room.0 ∙ before_is job,
      is ∙ ap (λ (ts : List Token). ts ++ end_object ∷ []) (job_is job)
          ∙ append_assoc old (key (codes "job") ∷ string word ∷ []) (end_object ∷ [])
          ∙ ap (λ (ts : List Token). old ++ ts) (sym (job_alone c.args.line.now none)),
    ))
    c.end_object.ensures.ok

pub returns-in-Some : goal.returns-in-Some
returns-in-Some c =
    let job = (goal.at.returns-in-Some c).In_ok-string in
    let old = c.args.writer.now.tokens in
    let word = (cut_at (codes " ") c.args.line.now).0 in
    let verdict = c.in-Some.verdict.now in
    let some : Some verdict ≡ (cut_at (codes " ") c.args.line.now).1 = sym (ap option_copied c.in-Some.is) ∙ c.cut_at.ensures.behind in
    let rest = members_tokens (members_of (check_parts verdict) (Some verdict)) in
    let wrote =
    subst (λ (ps : List Part). Adds c.write_members.result c.string.new.self c.write_members.new.writer
    (members_tokens (members_of ps (Some verdict))))
    c.check_parts.ensures c.write_members.ensures in
    on_ok_weaker c.write_members.result
    (λ is. (
      is.0 ∙ before_is job,
      is.1 ∙ ap (λ (ts : List Token). ts ++ rest) (job_is job) ∙ append_assoc old (key (codes "job") ∷ string word ∷ []) rest
          ∙ ap (λ (ts : List Token). old ++ ts) (sym (with_job c.args.line.now verdict some)),
    ))
    wrote
