-- Lines of an attack, one after another.
use Rattle.std.proofs.Common.{◌≡◌, ℕ, Bool, true, false, List, [], ◌∷◌, ◌++◌, Result, Ok, Err, refl, sym, ap}
use Rattle.std.proofs.Common.{◌∙◌, subst, append_assoc, append-nil}
use Rattle.std.specs.Prelude.{◌&&◌, not, OnOk}
use Rattle.std.proofs.lemmas.List.{map-append}
use Rattle.std.proofs.lemmas.List.Concat.{flat_map-append}
use mathlib.Core.Bool.{false≢true}
use Rattle.histar_flat.specs.declared.calls.CallLine.{CallLine}
use Rattle.histar_flat.specs.Calls.{IsCall}
use Rattle.histar_flat.specs.Words.{ProcName}
use Rattle.histar_flat.specs.Meaning.{RepliedCall, answered_from, flat_end}
use Rattle.histar_flat.proofs.Laws.{replies_go_on, states_go_on}
use Rattle.histar_rules.specs.Visible.{IsTaintedCaller}
use Rattle.histar_syscall.specs.KernelModel.{KernelModel, state}
use Rattle.histar_programs.specs.declared.roots.Roots.{Roots}
use Rattle.histar_raw_session.specs.declared.read_session.RawLine.{RawLine}
use Rattle.histar_shell.specs.Answers.{answer_text, answers_text, calls_of}
use Rattle.histar_shell.specs.AnsweredCalls.{AnswersInTurn}
use Rattle.histar_shell.specs.Machine.{AnswersLine, MachineModel}
use Rattle.histar_shell.proofs.CallRefinements.{calls_refine}
use Rattle.histar_shell.proofs.LineMeanings.{line_follows}
use Rattle.histar_outside.specs.NamedAttacks.{IsUnderWay}
use Rattle.histar_outside.specs.Search.{IsOutsideCaller}
use Rattle.histar_outside.proofs.JobsBegin.{lines_lead_on}
use Rattle.histar_attack.specs.declared.handling.LineRule.{LineRule}
use Rattle.histar_mixed.specs.declared.items.MixedItem.{MixedItem}
use Rattle.histar_mixed.specs.declared.items.MixedItem.TheVariants as items
use Rattle.histar_attack.specs.Answering.{AnswersEach, AnswersOne, AnswersRawLine, LeadsOn}
use Rattle.histar_attack.specs.Confinement.{Decides}
use Rattle.histar_attack.specs.Handling.{Handled, HandlesInTurn, HandlesItem, HandlesItems, handled_text, handled_texts, line_of}
use Rattle.histar_attack.specs.Handling.Handled.{Answered, Followed, Inside, NotConfined, Replied}

-- ---- Unix calls before an attack

-- one call leads on
leads_one : (old new : MachineModel) (a : RepliedCall) → IsCall a.call.call
    → AnswersLine old new a.call.line a.call.process a.call.call (Ok a.reply) → LeadsOn old new (a ∷ [])
leads_one old new a can answered accounts f under =
    let meant = line_follows calls_refine old new a.call.line a.call.process a.call.call (Ok a.reply) can answered accounts f under.shows in
    (lines_lead_on accounts old new f a under can answered, λ i. record { call = a.call; reply = meant.is_reply i } ∷ [])

leads_more : (first mid last : MachineModel) (xs ys : List RepliedCall) → LeadsOn first mid xs → LeadsOn mid last ys
    → LeadsOn first last (xs ++ ys)
leads_more first mid last xs ys one two accounts f under =
    let now = one accounts f under in
    let later = two accounts (flat_end accounts f (calls_of xs)) now.0 in
    let calls : calls_of (xs ++ ys) ≡ calls_of xs ++ calls_of ys = map-append (λ (a : RepliedCall). a.call) xs ys in (
      subst (IsUnderWay accounts last) (sym (ap (flat_end accounts f) calls ∙ states_go_on accounts f (calls_of xs) (calls_of ys))) later.0,
      (λ i. now.1 i ++ later.1 i)
          ∙ sym (ap (answered_from accounts f) calls ∙ replies_go_on accounts f (calls_of xs) (calls_of ys)),
    )

turns_more : (m mid end : MachineModel) (xs ys : List RepliedCall)
    → AnswersInTurn m xs mid → AnswersInTurn mid ys end → AnswersInTurn m (xs ++ ys) end
turns_more m mid end [] ys one two = subst (λ (x : MachineModel). AnswersInTurn x ys end) one two
turns_more m mid end (a ∷ xs) ys one two = (one.0, one.1, turns_more one.0 mid end xs ys one.2 two)

-- a text with more behind it, and more behind that
text_more : (before mid after one two : List ℕ) → mid ≡ before ++ one → after ≡ mid ++ two → after ≡ before ++ (one ++ two)
text_more before mid after one two first second = second ∙ ap (λ (t : List ℕ). t ++ two) first ∙ append_assoc before one two

pub answers_none : (m : MachineModel) (text : List ℕ) → AnswersEach m m text text []
answers_none m text = record {
  answers = [];
  each = refl;
  in_turn = refl;
  leads = λ accounts f under. (under, refl);
  written = sym (append-nil text);
}

pub answers_more : {first mid last : MachineModel} {a b c : List ℕ} (calls : List CallLine) (call : CallLine)
    → AnswersEach first mid a b calls → AnswersOne mid last b c call → AnswersEach first last a c (calls ++ call ∷ [])
answers_more {first = first} {mid = mid} {last = last} {a = a} {b = b} {c = c} calls call done one =
    let now : RepliedCall = record { call = call; reply = one.reply } in
    record {
      answers = done.answers ++ now ∷ [];
      each = map-append (λ (x : RepliedCall). x.call) done.answers (now ∷ []) ∙ ap (λ (l : List CallLine). l ++ call ∷ []) done.each;
      in_turn = turns_more first mid last done.answers (now ∷ []) done.in_turn (last, one.answered, refl);
      leads = leads_more first mid last done.answers (now ∷ []) done.leads (leads_one mid last now one.can one.answered);
      written = text_more a b c (answers_text done.answers) (answer_text now) done.written one.written
          ∙ ap (λ (t : List ℕ). a ++ t) (sym (flat_map-append answer_text done.answers (now ∷ [])
          ∙ ap (λ (t : List ℕ). answers_text done.answers ++ t) (append-nil (answer_text now))));
    }

-- ---- the lines of an attack

handles_more : (at : LineRule) (m mid end : MachineModel) (xs ys : List Handled) → HandlesInTurn at m xs mid → HandlesInTurn at mid ys end
    → HandlesInTurn at m (xs ++ ys) end
handles_more at m mid end [] ys one two = subst (λ (x : MachineModel). HandlesInTurn at x ys end) one two
handles_more at m mid end (x ∷ xs) ys one two = (one.0, one.1, handles_more at one.0 mid end xs ys one.2 two)

pub handled_none : (at : LineRule) (m : MachineModel) (text : List ℕ) → HandlesItems at m m text text []
handled_none at m text = record { handled = []; lines = refl; in_turn = refl; written = sym (append-nil text) }

pub handled_more : (at : LineRule) {first mid last : MachineModel} {a b c : List ℕ} (its : List MixedItem) (item : MixedItem)
    → HandlesItems at first mid a b its → HandlesItem at mid last b c item → HandlesItems at first last a c (its ++ item ∷ [])
handled_more at {first = first} {mid = mid} {last = last} {a = a} {b = b} {c = c} its item done one = record {
  handled = done.handled ++ one.handled ∷ [];
  lines = map-append line_of done.handled (one.handled ∷ []) ∙ (λ i. done.lines i ++ one.line i ∷ []);
  in_turn = handles_more at first mid last done.handled (one.handled ∷ []) done.in_turn (last, one.handles, refl);
  written = text_more a b c (handled_texts done.handled) (handled_text one.handled) done.written one.written
      ∙ ap (λ (t : List ℕ). a ++ t) (sym (flat_map-append handled_text done.handled (one.handled ∷ [])
      ∙ ap (λ (t : List ℕ). handled_texts done.handled ++ t) (append-nil (handled_text one.handled))));
}

-- the tests of the machine's kernel and places
pub outside_there : (m : MachineModel) {k : KernelModel} {r : Roots} (v : ℕ) (me : ProcName) (t : Bool) → k ≡ m.kernel → r ≡ m.roots
    → Decides t (IsOutsideCaller (state k) v r.home me) → Decides t (IsOutsideCaller (state m.kernel) v m.roots.home me)
outside_there m {k = k} {r = r} v me t kernel roots decided =
    subst (λ (x : KernelModel). Decides t (IsOutsideCaller (state x) v m.roots.home me)) kernel
    (subst (λ (x : Roots). Decides t (IsOutsideCaller (state k) v x.home me)) roots decided)

pub tainted_there : (m : MachineModel) (k : KernelModel) (v q : ℕ) (t : Bool) → k ≡ m.kernel
    → Decides t (IsTaintedCaller (state k) v q) → Decides t (IsTaintedCaller (state m.kernel) v q)
tainted_there m k v q t kernel decided = subst (λ (x : KernelModel). Decides t (IsTaintedCaller (state x) v q)) kernel decided

-- a call that is left out is of a process inside, and such calls are not followed
pub left_out : (t follow : Bool) → (not t && not follow) ≡ true → (t ≡ false) × (follow ≡ false)
left_out true follow e = absurd (false≢true e)
left_out false true e = absurd (false≢true e)
left_out false false e = (refl, refl)

pub left_in : (t follow : Bool) → (not t && not follow) ≡ false → t ≡ false → follow ≡ true
left_in true follow e is = absurd (false≢true (sym is))
left_in false true e is = refl
left_in false false e is = absurd (false≢true (sym e))

module _ (at : LineRule) (m : MachineModel) (a b : List ℕ) where
  -- whether the process of a call is outside
  abbrev Out : CallLine → Bool → Type 0
  Out call t = Decides t (IsOutsideCaller (state m.kernel) at.category m.roots.home call.process)

  -- a Unix call that is not made
  pub unix_inside : (call : CallLine) (t : Bool) → t ≡ false → at.follow ≡ false → Out call t → b ≡ a ++ handled_text (Inside call)
      → HandlesItem at m m a b (items.Unix call)
  unix_inside call t is still decided written = record {
    handled = Inside call;
    line = refl;
    handles = (still, subst (Out call) is decided, refl);
    written = written;
  }

  -- a Unix call that is made
  pub unix_made : {E : Type 0} (new : MachineModel) (call : CallLine) (t : Bool) (result : Result (Unit {0}) E)
      → (t ≡ false → at.follow ≡ true) → Out call t → OnOk result (AnswersOne m new a b call)
      → OnOk result (HandlesItem at m new a b (items.Unix call))
  unix_made new call true (Ok done) follows decided one = record {
    handled = Replied (record { call = call; reply = one.reply });
    line = refl;
    handles = (one.can, decided, one.answered);
    written = one.written;
  }
  unix_made new call false (Ok done) follows decided one = record {
    handled = Followed (record { call = call; reply = one.reply });
    line = refl;
    handles = (follows refl, decided, one.answered);
    written = one.written;
  }
  unix_made new call true (Err e) follows decided one = tt
  unix_made new call false (Err e) follows decided one = tt

  -- a raw call that is not made
  pub raw_free : (asked : RawLine) (t : Bool) → t ≡ false → Decides t (IsTaintedCaller (state m.kernel) at.category asked.thread)
      → b ≡ a ++ handled_text (NotConfined asked) → HandlesItem at m m a b (items.Raw asked)
  raw_free asked t is decided written = record {
    handled = NotConfined asked;
    line = refl;
    handles = (subst (λ x. Decides x (IsTaintedCaller (state m.kernel) at.category asked.thread)) is decided, refl);
    written = written;
  }

  -- a raw call that is made
  pub raw_made : {E : Type 0} (new : MachineModel) (asked : RawLine) (t : Bool) (result : Result (Unit {0}) E) → t ≡ true
      → Decides t (IsTaintedCaller (state m.kernel) at.category asked.thread) → OnOk result (AnswersRawLine m new a b asked)
      → OnOk result (HandlesItem at m new a b (items.Raw asked))
  raw_made new asked t (Ok done) is decided one = record {
    handled = Answered asked one.outcome;
    line = refl;
    handles = (subst (λ x. Decides x (IsTaintedCaller (state m.kernel) at.category asked.thread)) is decided, one.made);
    written = one.written;
  }
  raw_made new asked t (Err e) is decided one = tt
