-- There is a sentence exactly where the reply is a refusal.
use Rattle.std.specs.Prelude.{◌≡◌, ℕ, Bool, true, false, ◌+◌, cond, List, [], ◌∷◌, ◌++◌, Option, None, Some, is_some, option_map, refl}
use Rattle.std.proofs.Common.{sym, ap, ◌∙◌}
use Rattle.std.proofs.lemmas.Bool.{true≢false}
use Rattle.histar_base.specs.Paths.{same}
use Rattle.histar_base.specs.Refusals.{unless}
use Rattle.histar_flat.specs.declared.calls.CallLine.{CallLine}
use Rattle.histar_flat.specs.declared.calls.UnixCall.{UnixCall}
use Rattle.histar_flat.specs.declared.calls.UnixCall.TheVariants.{Create, Stat, Status}
use Rattle.histar_flat.specs.declared.replies.Errno.{Errno}
use Rattle.histar_flat.specs.declared.replies.Errno.TheVariants.{ESRCH}
use Rattle.histar_flat.specs.Words.{ProcName}
use Rattle.histar_flat.specs.Accounts.{Accounts}
use Rattle.histar_flat.specs.Files.{get}
use Rattle.histar_flat.specs.Classes.{Process}
use Rattle.histar_flat.specs.FlatState.{Flat, Node, IsTree, is_some_and}
use Rattle.histar_flat.specs.Needs.{not_found}
use Rattle.histar_flat.specs.Effects.{life_reply, stat_reply}
use Rattle.histar_flat.specs.CallRules.{path_of, rule}
use Rattle.histar_flat.specs.RuleLaws.{Met}
use Rattle.histar_flat.specs.FlatCalls.{refused, answer, reply_or, next_child, running, reply_by, flat_after}
use Rattle.histar_flat.specs.Meaning.{boot, flat_end}
use Rattle.histar_flat.proofs.Changes.{EachChange, by_line}
use Rattle.histar_flat.proofs.Refusals.{passes_first, passes_later, passed}
use Rattle.histar_flat.proofs.Trees.{paths_are_a_tree}
use Rattle.histar_flat.proofs.Warrants.{met}
use Rattle.histar_reasons.specs.Reasons.{Reason, errno_of, why}
use Rattle.histar_reasons.specs.Sentences.{why_text, sentence_by}
use Rattle.histar_reasons.specs.Laws.{is_refusal, RefusalsHaveSentences}
use Rattle.histar_reasons.proofs.Agreeing.{refusals_have_reasons}

-- process 0 is there
abbrev pub FirstIsThere : Flat → Type 0
FirstIsThere f = is_some (f.processes []) ≡ true

-- it is there after a process was changed
pub still_there : (b : Bool) (p : Process) (o : Option Process) → is_some o ≡ true → is_some (cond b (Some p) o) ≡ true
still_there true p o h = refl
still_there false p o h = h

module _ (accounts : Accounts) (f : Flat) (first : FirstIsThere f) where
  first_stays : (me : ProcName) (p : Process) (call : UnixCall) → EachChange accounts f me p call FirstIsThere
  first_stays me p call = record {
    stays = first;
    makes = λ n d x walked free w own mode made_is. first;
    overwrites = λ n d bytes file w. first;
    cuts = λ n d away w. first;
    renames = λ n k d away other free w. first;
    spawns = λ is. still_there (same me []) (record p { born = p.born + 1 }) (f.processes []) first;
    exits = λ n is. still_there (same me []) _ (f.processes []) first;
    logs_in = λ name is known free. still_there (same me []) _ (f.processes []) first;
    kills = λ n. first;
    wraps = λ n d is walked free w named.
        still_there (same me []) (record p { held = p.held ++ next_child me p ∷ []; born = p.born + 1 }) (f.processes []) first;
  }

  -- a call leaves process 0 there
  first_after : (me : ProcName) (call : UnixCall) → FirstIsThere (flat_after accounts f me call)
  first_after me call = by_line accounts f me call FirstIsThere first (λ p runs. first_stays me p call)

pub first_at_end : (accounts : Accounts) (f : Flat) → FirstIsThere f → (calls : List CallLine) → FirstIsThere (flat_end accounts f calls)
first_at_end accounts f first [] = first
first_at_end accounts f first (c ∷ calls) =
    first_at_end accounts (flat_after accounts f c.process c.call) (first_after accounts f first c.process c.call) calls

-- what is shown of a node that is there is no refusal
shown : (o : Option Node) → is_some_and o (λ n. true) ≡ true → is_refusal (stat_reply o) ≡ false
shown None h = absurd (true≢false (sym h))
shown (Some n) h = refl

-- what is shown of a process that is there is no refusal
lives : (o : Option Process) → is_some o ≡ true → is_refusal (life_reply o) ≡ false
lives None h = absurd (true≢false (sym h))
lives (Some p) h = by p.exited
  where
    by : (e : Option ℕ) → is_refusal (life_reply (Some (record p { exited = e }))) ≡ false
    by None = refl
    by (Some n) = refl

module _ (accounts : Accounts) (f : Flat) (first : FirstIsThere f) (me : ProcName) (p : Process) where
  -- a process that is found is there
  found_there : (name : ProcName) → not_found f p name ≡ None → is_some (f.processes name) ≡ true
  found_there [] h = first
  found_there (n ∷ above) h =
      passed (is_some (f.processes (n ∷ above))) ESRCH
      (passes_first (unless (is_some (f.processes (n ∷ above))) ESRCH) _ (passes_later (not_found f p above) _ h))

  -- the answer of a call whose needs are met is no refusal
  answers : (call : UnixCall) → Met accounts f me p (path_of call) (rule call).needs → is_refusal (answer f me p call) ≡ false
  answers (Create q mode) known = refl
  answers (Stat q) known = shown (get f.files q) known.1
  answers (Status name) known = lives (f.processes name) (found_there name known)
  answers _ known = refl

  spoken : (call : UnixCall) (o : Option Reason) (u : Option Errno) → option_map errno_of o ≡ u → refused accounts f me p call ≡ u
      → is_some (option_map (why_text me p) o) ≡ is_refusal (reply_or u (answer f me p call))
  spoken call None u h e =
      let none = e ∙ sym h in
      sym (answers call (met accounts f me p (path_of call) (rule call).needs none))
      ∙ ap (λ u. is_refusal (reply_or u (answer f me p call))) h
  spoken call (Some r) u h e = ap (λ u. is_refusal (reply_or u (answer f me p call))) h

  by_process : IsTree f → (call : UnixCall) → is_some (sentence_by accounts f me (Some p) call) ≡ is_refusal (reply_by accounts f me (Some p) call)
  by_process tree call = spoken call (why accounts f me p call) (refused accounts f me p call) (refusals_have_reasons accounts f tree me p call) refl

-- a state with process 0 that is a tree has a sentence for each refusal
spoken_in : (accounts : Accounts) (f : Flat) → IsTree f → FirstIsThere f → (me : ProcName) (call : UnixCall) (o : Option Process)
    → is_some (sentence_by accounts f me o call) ≡ is_refusal (reply_by accounts f me o call)
spoken_in accounts f tree first me call None = refl
spoken_in accounts f tree first me call (Some p) = by_process accounts f first me p tree call

pub refusals_have_sentences : RefusalsHaveSentences
refusals_have_sentences accounts calls me call =
    spoken_in accounts (flat_end accounts (boot accounts) calls) (paths_are_a_tree accounts calls)
    (first_at_end accounts (boot accounts) refl calls) me call
    (running (flat_end accounts (boot accounts) calls) me)
