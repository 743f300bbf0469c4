-- Where something is said of those that may write what only its maker writes.
use Rattle.std.proofs.Common.{◌≡◌, ◌≢◌, ◌⊎◌, ℕ, Bool, true, false, ◌||◌, ◌&&◌}
use Rattle.std.proofs.Common.{List, [], ◌∷◌, ◌++◌, Option, None, Some}
use Rattle.std.proofs.Common.{refl, sym, ap, ◌∙◌, inl, inr}
use Rattle.std.specs.Prelude.{◌↔◌, not, option_map, if◌then◌else◌}
use Rattle.std.specs.Ordering.{is_eq}
use Rattle.std.specs.Cmp.{tied_itself}
use Rattle.histar_base.specs.Paths.{path_cmp, same, same_path}
use Rattle.histar_base.proofs.PathLaws.{path_cmp_exact, path_cmp_ties, path_cmp_total}
use Rattle.histar_flat.specs.declared.calls.CallLine.{CallLine}
use Rattle.histar_flat.specs.declared.calls.Mode.TheVariants.{Group}
use Rattle.histar_flat.specs.declared.calls.UnixCall.{UnixCall}
use Rattle.histar_flat.specs.declared.calls.UnixCall.TheVariants.{Append, Create, Write}
use Rattle.histar_flat.specs.declared.replies.Errno.{Errno}
use Rattle.histar_flat.specs.declared.replies.Errno.TheVariants.{EAUTH}
use Rattle.histar_flat.specs.declared.replies.Reply.{Reply}
use Rattle.histar_flat.specs.declared.replies.Reply.TheVariants.{Child, Data, Done, Entries, Exited, Gone, Refused, Running, Stats, User}
use Rattle.histar_flat.specs.Words.{Name, Path, ProcName}
use Rattle.histar_flat.specs.Accounts.{Accounts}
use Rattle.histar_flat.specs.Classes.{Process}
use Rattle.histar_flat.specs.FlatState.{Flat}
use Rattle.histar_flat.specs.FlatCalls.{changed, flat_after, flat_by, flat_or, if_running, refused, reply_to, running}
use Rattle.histar_flat.specs.Meaning.{boot, flat_end}
use Rattle.histar_flat.proofs.Finding.{equal}
use Rattle.histar_cells.specs.Whose.{user_running}
use Rattle.histar_policy.specs.declared.notes.Asked.{Asked}
use Rattle.histar_policy.specs.declared.notes.Asked.TheVariants.{LogsIn, Makes, Other, Wraps, Writes}
use Rattle.histar_policy.specs.declared.notes.Event.{Event}
use Rattle.histar_policy.specs.declared.notes.Event.TheVariants.{Made}
use Rattle.histar_policy.specs.Laws.{AnotherWrites, LoneWritersAreSaid, path_written}
use Rattle.histar_policy.specs.Notes.{asked_of, event_by, event_of, notes_from, refusal_event}
use Rattle.histar_policy.specs.Takers.{creation, made_event, writers, wrote_event}
use Rattle.histar_policy.specs.Warnings.{if_any, is_write_of_another, is_written_by_another, others_may_write, writing_sentence_on}
use Rattle.histar_policy.proofs.MayDo.{both, differ, tested}

-- ---- calls that leave processes as they are

module _ (accounts : Accounts) (f : Flat) (me : ProcName) (call : UnixCall) where
  -- a call whose change leaves processes as they are leaves them so
  processes_kept : ((p : Process) → (changed accounts f me p call).processes ≡ f.processes)
      → (flat_after accounts f me call).processes ≡ f.processes
  processes_kept keeps = by (running f me)
    where
      by_refusal : (p : Process) (e : Option Errno) → (flat_or e f (changed accounts f me p call)).processes ≡ f.processes
      by_refusal p None = keeps p
      by_refusal p (Some e) = refl

      by : (o : Option Process) → (flat_by accounts f me o call).processes ≡ f.processes
      by None = refl
      by (Some p) = by_refusal p (refused accounts f me p call)

  -- so the user of the process is the same after it
  user_kept : ((p : Process) → (changed accounts f me p call).processes ≡ f.processes)
      → user_running (flat_after accounts f me call) me ≡ user_running f me
  user_kept keeps =
      ap (λ (ps : ProcName → Option Process). option_map (λ (p : Process). p.user) (if_running (ps me))) (processes_kept keeps)

-- a call that writes leaves processes as they are
writes_keep : (accounts : Accounts) (f : Flat) (me : ProcName) (p : Process) (q : Path) (call : UnixCall) → path_written call ≡ Some q
    → (changed accounts f me p call).processes ≡ f.processes
writes_keep accounts f me p q (Write r bytes) e = refl
writes_keep accounts f me p q (Append r bytes) e = refl
writes_keep accounts f me p q _ e = absurd cc

-- ---- what calls say that write

-- the path of a write, by what matters of the call
abbrev path_asked : Asked → Option Path
path_asked (Writes q) = Some q
path_asked asked = None

asked_path : (call : UnixCall) → path_written call ≡ path_asked (asked_of call)
asked_path (Write q bytes) = refl
asked_path (Append q bytes) = refl
asked_path _ = refl

asks_to_write : (asked : Asked) (q : Path) → path_asked asked ≡ Some q → asked ≡ Writes q
asks_to_write (Writes r) q e = let alike : r ≡ q = cc in ap (λ (p : Path). Writes p) alike
asks_to_write (LogsIn user) q e = absurd cc
asks_to_write Wraps q e = absurd cc
asks_to_write (Makes r shared) q e = absurd cc
asks_to_write Other q e = absurd cc

-- a path is the same as itself
path_itself : (q : Path) → same_path q q ≡ true
path_itself q = path_cmp_ties q q ∙ ap is_eq (tied_itself path_cmp_total q)

module _ (accounts : Accounts) (f : Flat) (me : ProcName) (maker : Name) (q : Path) where
  -- by what matters of a call, its reply and the state after it, it wrote at the path by a process of another user than the maker
  record IsOtherWrite (asked : Asked) (reply : Reply) : Type 0 where
    asks : asked ≡ Writes q
    done : reply ≡ Done
    user : Name
    runs : user_running f me ≡ Some user
    other : user ≢ maker

  abbrev is_other : Event → Bool
  is_other = is_write_of_another maker q

  other_wrote : (r : Path) (o : Option Name) → user_running f me ≡ o → is_other (wrote_event r o) ≡ true → IsOtherWrite (Writes r) Done
  other_wrote r None is e = absurd cc
  other_wrote r (Some user) is e =
      let parts = both (same_path r q) (not (same user maker)) e in
      record {
        asks = ap (λ (p : Path). Writes p) (path_cmp_exact r q (equal (path_cmp r q) (sym (path_cmp_ties r q) ∙ parts.0)));
        done = refl;
        user = user;
        runs = is;
        other = differ user maker parts.1;
      }

  made_is_no_write : (r : Path) (shared : Bool) (o : Option Name) → is_other (made_event accounts f r shared o) ≡ false
  made_is_no_write r shared None = refl
  made_is_no_write r shared (Some user) = refl

  refusal_is_no_write : (asked : Asked) (e : Errno) → is_other (refusal_event asked e) ≡ false
  refusal_is_no_write Wraps e = refl
  refusal_is_no_write (Makes r shared) e = refl
  refusal_is_no_write (Writes r) e = refl
  refusal_is_no_write Other e = refl
  refusal_is_no_write (LogsIn user) e = by e
    where
      by : (e : Errno) → is_other (refusal_event (LogsIn user) e) ≡ false
      by EAUTH = refl
      by _ = refl

  done_is_write : (asked : Asked) → is_other (event_by accounts f me asked Done) ≡ true → IsOtherWrite asked Done
  done_is_write (LogsIn user) e = absurd cc
  done_is_write Wraps e = absurd cc
  done_is_write (Makes r shared) e = let none = made_is_no_write r shared (user_running f me) in absurd cc
  done_is_write (Writes r) e = other_wrote r (user_running f me) refl e
  done_is_write Other e = absurd cc

  -- what is said of a call that it wrote is so
  is_other_write : (asked : Asked) (reply : Reply) → is_other (event_by accounts f me asked reply) ≡ true → IsOtherWrite asked reply
  is_other_write asked Done e = done_is_write asked e
  is_other_write asked (Data bytes) e = absurd cc
  is_other_write asked (Entries listing) e = absurd cc
  is_other_write asked (Stats stat) e = absurd cc
  is_other_write Wraps (Child born) e = absurd cc
  is_other_write Other (Child born) e = absurd cc
  is_other_write (Makes r shared) (Child born) e = absurd cc
  is_other_write (Writes r) (Child born) e = absurd cc
  is_other_write (LogsIn user) (Child born) e = absurd cc
  is_other_write asked Running e = absurd cc
  is_other_write asked (Exited n) e = absurd cc
  is_other_write asked (User name confined) e = absurd cc
  is_other_write asked (Refused errno) e = let none = refusal_is_no_write asked errno in absurd cc
  is_other_write asked Gone e = absurd cc

  -- and of a call that wrote it is said
  other_write_is_said : {asked : Asked} {reply : Reply} → IsOtherWrite asked reply → is_other (event_by accounts f me asked reply) ≡ true
  other_write_is_said w =
      (λ i. is_other (event_by accounts f me (w.asks i) (w.done i))) ∙ ap (λ (o : Option Name). is_other (wrote_event q o)) w.runs
      ∙ (λ i. path_itself q i && tested w.user maker w.other i)

-- ---- lists of calls

module _ (accounts : Accounts) (maker : Name) (q : Path) where
  -- if it is said that a call of a process of another user wrote there, one did
  said_is : (f : Flat) (calls : List CallLine) → is_written_by_another (notes_from accounts f calls) maker q ≡ true
      → AnotherWrites accounts f calls maker q
  said_is f [] h = absurd cc
  said_is f (c ∷ calls) h =
      by (is_write_of_another maker q (event_of accounts f c.process c.call)) refl h
      (λ e. said_is (flat_after accounts f c.process c.call) calls e)
    where
      by : (b : Bool) → is_write_of_another maker q (event_of accounts f c.process c.call) ≡ b
          → (b || is_written_by_another (notes_from accounts (flat_after accounts f c.process c.call) calls) maker q) ≡ true
          → (is_written_by_another (notes_from accounts (flat_after accounts f c.process c.call) calls) maker q ≡ true
          → AnotherWrites accounts (flat_after accounts f c.process c.call) calls maker q)
          → AnotherWrites accounts f (c ∷ calls) maker q
      by true is e later =
          let w = is_other_write accounts (flat_after accounts f c.process c.call) c.process maker q (asked_of c.call)
          (reply_to accounts f c.process c.call) is in
          let writes : path_written c.call ≡ Some q = asked_path c.call ∙ ap path_asked w.asks in
          record {
            before = [];
            line = c;
            after = calls;
            parts = refl;
            writes = writes;
            done = w.done;
            user = w.user;
            runs = sym (user_kept accounts f c.process c.call (λ p. writes_keep accounts f c.process p q c.call writes)) ∙ w.runs;
            other = w.other;
          }
      by false is e later =
          let w = later e in
          record {
            before = c ∷ w.before;
            line = w.line;
            after = w.after;
            parts = ap (λ (l : List CallLine). c ∷ l) w.parts;
            writes = w.writes;
            done = w.done;
            user = w.user;
            runs = w.runs;
            other = w.other;
          }

  or_true : (b : Bool) → (b || true) ≡ true
  or_true true = refl
  or_true false = refl

  module _ (line : CallLine) (after : List CallLine) (writes : path_written line.call ≡ Some q) (user : Name) (other : user ≢ maker) where
    -- a call of a process of another user that wrote there, with the calls before it
    said_after : (f : Flat) (before : List CallLine)
        → reply_to accounts (flat_end accounts f before) line.process line.call ≡ Done
        → user_running (flat_end accounts f before) line.process ≡ Some user
        → is_written_by_another (notes_from accounts f (before ++ line ∷ after)) maker q ≡ true
    said_after f [] done runs =
        let next = flat_after accounts f line.process line.call in
        let first : is_write_of_another maker q (event_of accounts f line.process line.call) ≡ true =
        other_write_is_said accounts next line.process maker q
        (record {
          asks = asks_to_write (asked_of line.call) q (sym (asked_path line.call) ∙ writes);
          done = done;
          user = user;
          runs = user_kept accounts f line.process line.call (λ p. writes_keep accounts f line.process p q line.call writes) ∙ runs;
          other = other;
        }) in
        λ i. first i || is_written_by_another (notes_from accounts next after) maker q
    said_after f (c ∷ before) done runs =
        ap (λ (b : Bool). is_write_of_another maker q (event_of accounts f c.process c.call) || b)
        (said_after (flat_after accounts f c.process c.call) before done runs)
        ∙ or_true (is_write_of_another maker q (event_of accounts f c.process c.call))

  -- if a call of a process of another user wrote there, it is said
  is_said : (f : Flat) (calls : List CallLine) → AnotherWrites accounts f calls maker q
      → is_written_by_another (notes_from accounts f calls) maker q ≡ true
  is_said f calls w =
      ap (λ (l : List CallLine). is_written_by_another (notes_from accounts f l) maker q) w.parts
      ∙ said_after w.line w.after w.writes w.user w.other f w.before w.done w.runs

-- ---- the law

-- nothing is said exactly if there is nobody, or if the test passes
said_or_not : (b : Bool) (users : List Name) (text : List ℕ) {W : Type 0} → (b ≡ true → W) → (W → b ≡ true)
    → ((if b then None else if_any users text) ≡ None) ↔ ((users ≡ []) ⊎ W)
said_or_not true users text so back = (λ e. inr (so refl), λ h. refl)
said_or_not false [] text so back = (λ e. inl refl, λ h. refl)
said_or_not false (user ∷ users) text so back =
    (λ e. absurd cc, λ h. elim h [ inl none ↦ absurd cc | inr wrote ↦ let wrong = back wrote in absurd cc ])

pub lone_writers_are_said : LoneWritersAreSaid
lone_writers_are_said accounts before after me line q group maker runs done =
    let f = flat_end accounts (boot accounts) before in
    let call : UnixCall = Create q (Group group) in
    let next = flat_after accounts f me call in
    let calls : List CallLine = before ++ record { line = line; process = me; call = call } ∷ after in
    let notes = notes_from accounts (boot accounts) calls in
    let who = writers accounts next maker q in
    let event : event_of accounts f me call ≡ Made (creation accounts next q true maker) =
    ap (event_by accounts next me (Makes q true)) done
    ∙ ap (made_event accounts next q true) (user_kept accounts f me call (λ p. refl) ∙ runs) in
    let said : writing_sentence_on notes (event_of accounts f me call)
    ≡ (if is_written_by_another notes maker q then None else if_any who (others_may_write who q maker)) =
    ap (writing_sentence_on notes) event in
    let cases = said_or_not (is_written_by_another notes maker q) who (others_may_write who q maker)
    (said_is accounts maker q (boot accounts) calls) (is_said accounts maker q (boot accounts) calls) in
    (λ none. cases.0 (sym said ∙ none), λ h. said ∙ cases.1 h)
