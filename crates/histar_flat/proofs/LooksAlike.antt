-- Two states that look alike to a process, at the path and the process that a call names: the call is refused and answered alike.
use Rattle.std.specs.Prelude.{◌≡◌, Bool, true, false, not, ◌&&◌, ◌||◌, ◌==◌, [], ◌∷◌, List, ℕ, length, nat_lt, nat_le, Option, Some, None, is_some}
use Rattle.std.specs.Prelude.{option_map, refl}
use Rattle.std.proofs.Common.{ap}
use Rattle.std.proofs.lemmas.Bool.{and_parts}
use Rattle.histar_base.specs.Refusals.{◌orelse◌, unless}
use Rattle.histar_flat.specs.declared.calls.UnixCall.{UnixCall}
use Rattle.histar_flat.specs.declared.replies.Errno.{Errno}
use Rattle.histar_flat.specs.declared.replies.Errno.TheVariants.{EACCES, ESRCH}
use Rattle.histar_flat.specs.declared.replies.Reply.TheVariants as replies
use Rattle.histar_flat.specs.Words.{Name, Path, ProcName}
use Rattle.histar_flat.specs.PathOrder.{parent}
use Rattle.histar_flat.specs.Accounts.{Accounts}
use Rattle.histar_flat.specs.Files.{get}
use Rattle.histar_flat.specs.Classes.{Class, Process, sees, may_read, may_write, class_owner, class_mode}
use Rattle.histar_flat.specs.FlatState.{Entry, Flat, Node, is_some_and, reads, bytes_at, entries_in, walk}
use Rattle.histar_flat.specs.Needs.{Test, Need, passes, unmet, is_below_root, not_found, most_entries, most_bytes}
use Rattle.histar_flat.specs.Needs.Test.{Exists, IsFile, IsDirectory, Absent, AbsentBeside, MayRead, MayWrite, MayWriteAbove, HasRoomAbove, IsEmpty}
use Rattle.histar_flat.specs.Needs.Test.{Fits}
use Rattle.histar_flat.specs.Needs.Need.{◌then◌, ◌or◌, Walk, Found}
use Rattle.histar_flat.specs.Effects.{ReplyForm, reply_with, life_reply, stat_reply}
use Rattle.histar_flat.specs.Effects.ReplyForm.{Bytes, Listing, Attributes, StatusOf}
use Rattle.histar_flat.specs.CallRules.{path_of, rule}
use Rattle.histar_flat.specs.FlatCalls.{refused, answer, reply_or, reply_by}
use Rattle.histar_flat.proofs.Entries.{shown}
use Rattle.histar_flat.specs.RuleLaws.{Met, MayLook, IsOrdered, MayReveal}
use Rattle.histar_flat.proofs.Warrants.{met, ordered, may_be_revealed}

-- Two states look alike to a process at a path: the same walk; after it the same class and kind, and in a directory the same entries; the
-- same bytes of what it may read; and in a wide view its entries, and the same of each process that is found.
pub record LooksAlike (wide : Bool) (accounts : Accounts) (f g : Flat) (p : Process) (q : Path) : Type 0 where
  pub way : walk accounts f p q ≡ walk accounts g p q
  pub here : walk accounts f p q ≡ None → option_map shown (get f.files q) ≡ option_map shown (get g.files q)
  pub above : is_below_root q ≡ true → walk accounts f p q ≡ None
      → option_map shown (get f.files (parent q)) ≡ option_map shown (get g.files (parent q))
  pub beside : (name : Name) → is_below_root q ≡ true → walk accounts f p q ≡ None
      → option_map shown (get f.files (name ∷ parent q)) ≡ option_map shown (get g.files (name ∷ parent q))
  pub entries_above : is_below_root q ≡ true → walk accounts f p q ≡ None → entries_in f (parent q) ≡ entries_in g (parent q)
  pub entries : wide ≡ true → walk accounts f p q ≡ None → reads accounts f p q ≡ true → entries_in f q ≡ entries_in g q
  pub bytes : walk accounts f p q ≡ None → reads accounts f p q ≡ true → bytes_at f q ≡ bytes_at g q
  pub found : wide ≡ true → (name : ProcName) → not_found f p name ≡ not_found g p name
  pub life : wide ≡ true → (name : ProcName) → not_found f p name ≡ None → life_reply (f.processes name) ≡ life_reply (g.processes name)

-- the need tests no entries of a directory that is reached, and no process
abbrev pub is_narrow : Need → Bool
is_narrow (a then b) = is_narrow a && is_narrow b
is_narrow (IsEmpty or e) = false
is_narrow (Found name) = false
is_narrow _ = true

-- the need is within the view
abbrev is_in_view : Bool → Need → Bool
is_in_view wide need = wide || is_narrow need

-- a test of what `stat` shows passes alike
pub test_alike : (test : Class × Bool → Bool) (a b : Option Node) → option_map shown a ≡ option_map shown b
    → is_some_and a (λ n. test (shown n)) ≡ is_some_and b (λ n. test (shown n))
test_alike test None None h = refl
test_alike test None (Some n) h = absurd (cc)
test_alike test (Some m) None h = absurd (cc)
test_alike test (Some m) (Some n) h = let e : shown m ≡ shown n = cc in ap test e

-- the reply of `stat` is alike
stat_alike : (a b : Option Node) → option_map shown a ≡ option_map shown b → stat_reply a ≡ stat_reply b
stat_alike None None h = refl
stat_alike None (Some n) h = absurd (cc)
stat_alike (Some m) None h = absurd (cc)
stat_alike (Some m) (Some n) h =
    let e : shown m ≡ shown n = cc in
    ap (λ (s : Class × Bool). replies.Stats (record { is_directory = s.1; owner = class_owner s.0; mode = class_mode s.0 })) e

-- with the same processes, each is found alike
pub found_alike : (f g : Flat) (p : Process) → f.processes ≡ g.processes → (q : ProcName) → not_found f p q ≡ not_found g p q
found_alike f g p processes [] = refl
found_alike f g p processes (n ∷ above) = λ i.
    found_alike f g p processes above i orelse unless (is_some (processes i (n ∷ above))) ESRCH
    orelse unless (is_some_and (processes i (n ∷ above)) (sees p)) EACCES

-- what comes later counts only if nothing before refuses
pub later_alike : {E : Type 0} (a b x y : Option E) → a ≡ b → (a ≡ None → x ≡ y) → (a orelse x) ≡ (b orelse y)
later_alike None None x y e h = h refl
later_alike None (Some c) x y e h = absurd (cc)
later_alike (Some c) None x y e h = absurd (cc)
later_alike (Some c) (Some d) x y e h = e

both_in_view : (wide : Bool) (a b : Need) → is_in_view wide (a then b) ≡ true → (is_in_view wide a ≡ true) × (is_in_view wide b ≡ true)
both_in_view true a b h = (refl, refl)
both_in_view false a b h = and_parts (is_narrow a) (is_narrow b) h

-- a need that only a wide view has is in a wide view
is_wide : (wide : Bool) → (wide || false) ≡ true → wide ≡ true
is_wide true h = refl
is_wide false h = h

module _ (accounts : Accounts) (f g : Flat) (me : ProcName) (p : Process) (q : Path) (wide : Bool) (alike : LooksAlike wide accounts f g p q) where
  -- a test of what is at the path passes alike
  at_path : (test : Class × Bool → Bool) → walk accounts f p q ≡ None
      → is_some_and (get f.files q) (λ n. test (shown n)) ≡ is_some_and (get g.files q) (λ n. test (shown n))
  at_path test walked = test_alike test (get f.files q) (get g.files q) (alike.here walked)

  -- a test that looks only at what may be seen passes alike
  passes_alike : (test : Test) (e : Errno) → MayLook accounts f me p q test → is_in_view wide (test or e) ≡ true
      → passes accounts f me p q test ≡ passes accounts g me p q test
  passes_alike Exists e seen view = at_path (λ s. true) seen
  passes_alike IsFile e seen view = at_path (λ s. not s.1) seen
  passes_alike IsDirectory e seen view = at_path (λ s. s.1) seen
  passes_alike MayRead e seen view = at_path (λ s. may_read accounts p s.0) seen
  passes_alike MayWrite e seen view = at_path (λ s. may_write accounts p s.0) seen
  passes_alike Absent e seen view = ap not (at_path (λ s. true) seen)
  passes_alike MayWriteAbove e seen view =
      test_alike (λ s. may_write accounts p s.0) (get f.files (parent q)) (get g.files (parent q)) (alike.above seen.0 seen.1)
  passes_alike (AbsentBeside name) e seen view =
      ap not (test_alike (λ s. true) (get f.files (name ∷ parent q)) (get g.files (name ∷ parent q)) (alike.beside name seen.0 seen.1))
  passes_alike HasRoomAbove e seen view = ap (λ (l : List Entry). nat_lt (length l) most_entries) (alike.entries_above seen.0 seen.1)
  passes_alike IsEmpty e seen view = ap (λ (l : List Entry). length l == 0) (alike.entries (is_wide wide view) seen.0 seen.1)
  passes_alike (Fits new) e seen view = ap (λ (bytes : List ℕ). nat_le (length (new bytes)) most_bytes) (alike.bytes seen.0 seen.1)
  passes_alike _ e seen view = refl

  -- needs whose tests are in order are met alike
  pub unmet_alike : (Known : Type 0) → Known → (need : Need) → IsOrdered accounts f me p q Known need
      → is_in_view wide need ≡ true → unmet accounts f me p q need ≡ unmet accounts g me p q need
  unmet_alike Known known (a then b) seen view =
      let views = both_in_view wide a b view in
      later_alike (unmet accounts f me p q a) (unmet accounts g me p q a) (unmet accounts f me p q b)
      (unmet accounts g me p q b) (unmet_alike Known known a seen.0 views.0)
      (λ now. unmet_alike (Known × Met accounts f me p q a) (known, met accounts f me p q a now) b seen.1 views.1)
  unmet_alike Known known (test or e) seen view = ap (λ b. unless b e) (passes_alike test e (seen known) view)
  unmet_alike Known known Walk seen view = alike.way
  unmet_alike Known known (Found name) seen view = alike.found (is_wide wide view) name
  unmet_alike Known known _ seen view = refl

  -- each answer that may be revealed is given alike
  pub given_alike : wide ≡ true → (answer : ReplyForm) → MayReveal accounts f me p q answer → reply_with f me p q answer ≡ reply_with g me p q answer
  given_alike is Bytes may = ap replies.Data (alike.bytes may.0 may.1)
  given_alike is Listing may = ap replies.Entries (alike.entries is may.0 may.1)
  given_alike is Attributes may = stat_alike (get f.files q) (get g.files q) (alike.here may)
  given_alike is (StatusOf name) may = alike.life is name may
  given_alike is _ may = refl

module _ (accounts : Accounts) (f g : Flat) (me : ProcName) (p : Process) (call : UnixCall)
    (alike : LooksAlike true accounts f g p (path_of call)) where
  -- A call is refused alike in both states.
  pub refused_alike : refused accounts f me p call ≡ refused accounts g me p call
  refused_alike = unmet_alike accounts f g me p (path_of call) true alike (Unit {0}) tt (rule call).needs (ordered accounts f me p call) refl

  -- A call that is not refused is answered alike in both states.
  pub answer_alike : refused accounts f me p call ≡ None → answer f me p call ≡ answer g me p call
  answer_alike passes = given_alike accounts f g me p (path_of call) true alike refl (rule call).answer
      (may_be_revealed accounts f me p call passes)

  -- A call has the same reply in both states.
  pub reply_alike : reply_by accounts f me (Some p) call ≡ reply_by accounts g me (Some p) call
  reply_alike = by (refused accounts f me p call) (refused accounts g me p call) refused_alike answer_alike
    where
      by : (d e : Option Errno) → d ≡ e → (d ≡ None → answer f me p call ≡ answer g me p call)
          → reply_or d (answer f me p call) ≡ reply_or e (answer g me p call)
      by None None h same = same refl
      by None (Some x) h same = absurd (cc)
      by (Some x) None h same = absurd (cc)
      by (Some x) (Some y) h same = let t : x ≡ y = cc in ap replies.Refused t

-- A call whose needs are narrow is refused alike in a narrow view.
pub refused_alike_narrow : (accounts : Accounts) (f g : Flat) (me : ProcName) (p : Process) (call : UnixCall)
    → LooksAlike false accounts f g p (path_of call) → is_narrow (rule call).needs ≡ true
    → refused accounts f me p call ≡ refused accounts g me p call
refused_alike_narrow accounts f g me p call alike narrow =
    unmet_alike accounts f g me p (path_of call) false alike (Unit {0}) tt (rule call).needs
    (ordered accounts f me p call) narrow
