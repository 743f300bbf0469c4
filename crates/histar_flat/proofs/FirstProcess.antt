-- While no call makes a process or ends the first one, process 0 is the only one: it runs, in no job, and all others are gone.
use Rattle.std.specs.Prelude.{◌≡◌, ℕ, Bool, true, false, cond, List, [], ◌∷◌, Option, Some, None, refl}
use Rattle.std.specs.List.{list_all}
use Rattle.std.proofs.Common.{ap, sym, ◌∙◌, subst}
use Rattle.std.proofs.lemmas.Bool.{true≢false, and_parts}
use Rattle.histar_flat.specs.declared.calls.CallLine.{CallLine}
use Rattle.histar_flat.specs.declared.calls.UnixCall.{UnixCall}
use Rattle.histar_flat.specs.declared.replies.Reply.TheVariants.{Gone}
use Rattle.histar_flat.specs.Words.{ProcName}
use Rattle.histar_flat.specs.PathOrder.{under_process}
use Rattle.histar_flat.specs.Accounts.{Accounts}
use Rattle.histar_flat.specs.Classes.{Process}
use Rattle.histar_flat.specs.FlatState.{Flat}
use Rattle.histar_flat.specs.Effects.{Effect}
use Rattle.histar_flat.specs.Effects.Effect.{Spawns, Exits, Wraps}
use Rattle.histar_flat.specs.CallRules.{rule}
use Rattle.histar_flat.specs.FlatCalls.{if_running, running, reply_to, flat_after}
use Rattle.histar_flat.specs.Meaning.{boot, first_process, flat_end}
use Rattle.histar_flat.proofs.Laws.{not_running_is_gone}
use Rattle.histar_flat.proofs.Changes.{EachChange, by_line}

-- the effect neither makes a process nor ends the calling one
abbrev pub keeps : Effect → Bool
keeps Spawns = false
keeps (Exits n) = false
keeps Wraps = false
keeps _ = true

-- the call neither makes a process nor ends the calling one
abbrev pub keeps_processes : UnixCall → Bool
keeps_processes call = keeps (rule call).effect

-- all calls of a script are such calls
abbrev pub all_keep_processes : List CallLine → Bool
all_keep_processes calls = list_all (λ (c : CallLine). keeps_processes c.call) calls

-- a process that runs, in no job
pub record IsPlain (p : Process) : Type 0 where
  pub free : p.chain ≡ []
  pub runs : p.exited ≡ None

-- process 0 is there and runs, in no job, and there is no other
pub record IsAlone (f : Flat) : Type 0 where
  pub first : Process
  pub is_first : f.processes [] ≡ Some first
  pub plain : IsPlain first
  pub others : (n : ℕ) (q : ProcName) → f.processes (n ∷ q) ≡ None

-- process 0 is alone at the start
pub alone_at_start : (accounts : Accounts) → IsAlone (boot accounts)
alone_at_start accounts = record {
  first = first_process;
  is_first = refl;
  plain = record { free = refl; runs = refl };
  others = λ n q. refl;
}

-- process 0 runs
pub first_runs : (f : Flat) (h : IsAlone f) → running f [] ≡ Some h.first
first_runs f h = ap if_running h.is_first ∙ ap (λ (x : Option ℕ). elim x [ None ↦ Some h.first | Some n ↦ None ]) h.plain.runs

-- no other process runs
pub others_are_still : (f : Flat) → IsAlone f → (n : ℕ) (q : ProcName) → running f (n ∷ q) ≡ None
others_are_still f h n q = ap if_running (h.others n q)

module _ (accounts : Accounts) where
  alone_changes : (f : Flat) → IsAlone f → (p : Process) (call : UnixCall) → IsPlain p → keeps_processes call ≡ true
      → EachChange accounts f [] p call IsAlone
  alone_changes f h p call plain keeping = record {
    stays = h;
    makes = λ n d x walked free w own mode made_is. record { first = h.first; is_first = h.is_first; plain = h.plain; others = h.others };
    overwrites = λ n d bytes file w. record { first = h.first; is_first = h.is_first; plain = h.plain; others = h.others };
    cuts = λ n d takes w. record { first = h.first; is_first = h.is_first; plain = h.plain; others = h.others };
    renames = λ n k d takes apart free w. record { first = h.first; is_first = h.is_first; plain = h.plain; others = h.others };
    spawns = λ is. absurd (true≢false (sym keeping ∙ ap keeps is));
    exits = λ n is. absurd (true≢false (sym keeping ∙ ap keeps is));
    logs_in = λ name is known free. record {
      first = record p { user = name; held = [] };
      is_first = refl;
      plain = record { free = plain.free; runs = plain.runs };
      others = h.others;
    };
    kills =
        λ n. record {
          first = h.first;
          is_first = h.is_first;
          plain = h.plain;
          others = λ m q. gone (under_process (n ∷ []) (m ∷ q)) (f.processes (m ∷ q)) (h.others m q);
        };
    wraps = λ n d is walked free w named. absurd (true≢false (sym keeping ∙ ap keeps is));
  }
    where
      gone : (b : Bool) (o : Option Process) → o ≡ None → cond b None o ≡ None
      gone true o e = refl
      gone false o e = e

  -- process 0 stays alone after such a call
  pub alone_after : (f : Flat) → IsAlone f → (me : ProcName) (call : UnixCall) → keeps_processes call ≡ true → IsAlone (flat_after accounts f me call)
  alone_after f h (n ∷ q) call keeps = subst IsAlone (sym (not_running_is_gone accounts f (n ∷ q) call (others_are_still f h n q)).1) h
  alone_after f h [] call keeps = by_line accounts f [] call IsAlone h (λ p runs.
      let found : Some h.first ≡ Some p = sym (first_runs f h) ∙ runs in
      let one : h.first ≡ p = cc in
      alone_changes f h p call (subst IsPlain one h.plain) keeps)

  -- process 0 stays alone after all calls of a script of such calls
  pub alone_at_end : (f : Flat) → IsAlone f → (calls : List CallLine) → all_keep_processes calls ≡ true → IsAlone (flat_end accounts f calls)
  alone_at_end f h [] keep = h
  alone_at_end f h (c ∷ calls) keep =
      let parts = and_parts (keeps_processes c.call) (all_keep_processes calls) keep in
      alone_at_end (flat_after accounts f c.process c.call) (alone_after f h c.process c.call parts.0) calls parts.1

  -- In a script of such calls the lines of all processes but 0 are answered `gone`.
  pub others_are_gone : (calls : List CallLine) → all_keep_processes calls ≡ true
      → (n : ℕ) (q : ProcName) (call : UnixCall)
      → reply_to accounts (flat_end accounts (boot accounts) calls) (n ∷ q) call ≡ Gone
  others_are_gone calls keep n q call =
      (not_running_is_gone accounts (flat_end accounts (boot accounts) calls) (n ∷ q) call
      (others_are_still (flat_end accounts (boot accounts) calls) (alone_at_end (boot accounts) (alone_at_start accounts) calls keep) n q)).0
