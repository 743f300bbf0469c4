-- The contract of `diff`, put together from those of its parts.
use Rattle.std.proofs.Common.{◌≡◌, ℕ, true, false, List, [], ◌∷◌, length, Option, Some, None, Result, Ok, Err, refl, sym, ap, subst}
use Rattle.std.proofs.Common.{◌∙◌, arith, inl, inr}
use Rattle.std.specs.Prelude.{◌↔◌, ◌==◌, Bool, IfSome, IsOk, MatchBool, MatchResult, is_ok}
use Rattle.std.specs.Io.KnownBytes.{Appends, Keeps}
use Rattle.std.proofs.lemmas.Bool.{false≢true}
use Rattle.std.proofs.lemmas.Bool.Decides.{nat_tests}
use Rattle.std.proofs.KnownBytes.{Keeps-refl}
use Rattle.histar_io.specs.declared.input.InputError.{InputError}
use Rattle.histar_io.specs.declared.input.InputError.TheVariants as input
use Rattle.histar_io.specs.Device.{CountsFailure}
use Rattle.histar_io.specs.Input.{TakesAll, TakesSome, is_read_failed as fails_to_read}
use Rattle.histar_io.specs.Writing.{AppendsFront}
use Rattle.histar_script.specs.declared.fault.Fault.{Fault}
use Rattle.histar_script.specs.declared.fault.Fault.TheVariants.{BadScript, TooLong, OutOfMemory, ReadFailed, WriteFailed}
use Rattle.histar_script.specs.Outcome.{input_fault}
use Rattle.histar_script.specs.Runs.{is_read_failed}
use Rattle.histar_diff.specs.declared.lone.Lone.{Lone}
use Rattle.histar_diff.specs.declared.differences.Difference.{Difference}
use Rattle.histar_diff.specs.declared.table.Table.{Table}
use Rattle.histar_diff.specs.declared.user_differences.UserDifference.{UserDifference}
use Rattle.histar_diff.specs.declared.users.LoneUser.{LoneUser}
use Rattle.histar_diff.specs.declared.users.UsersTable.{UsersTable}
use Rattle.histar_diff.specs.Differences.{AreDifferences}
use Rattle.histar_diff.specs.Tables.{IsTable}
use Rattle.histar_diff.specs.Texts.{differences_text}
use Rattle.histar_diff.specs.UserTables.{AreUserDifferences}
use Rattle.histar_diff.specs.UserTexts.{user_differences_text}
use Rattle.histar_diff.proofs.Changes.{differences_are_changes}
use Rattle.histar_diff.proofs.ShownTables.{shown_tables_rise}
use Rattle.histar_diff.proofs.TextLemmas.{no_text, no_user_text}
use Rattle.histar_diff.proofs.UsersShown.{user_differences_are_changes}
use Rattle.histar_access.specs.Diff.{ChangesAtFault, ComparesInputs, ComparesTaken, ComparesTexts, CountsOneFailure, Inputs}
use Rattle.histar_access.specs.Diff.{IsFaultOf, IsTableOf, IsTextBetween, IsTextOfChanges, IsTextOfProcesses, IsTextOfUsers, IsUsersTableOf}
use Rattle.histar_access.specs.Diff.{ReadsChanges, ReadsProcessChanges, ReadsUserChanges, Scripts, StopsAtInput, WritesChanges, both_read}
use Rattle.histar_access.specs.Diff.{lone_shown, lone_users_of, lone_users_shown, scripts_of, shown, user_changes_of, user_changes_shown}
use Rattle.histar_access.specs.declared.changes.DiffOptions.{DiffOptions}
use Rattle.std.specs.Global.{Vec}
use Rattle.histar_prefix.specs.Prefix.{calls_before, state_before}
use Rattle.histar_command.proofs.KnownInputs.{same_script}

-- the result of `diff`
abbrev Answer : Type 0
Answer = Result Bool Fault

module _ (at : Option ℕ) where
  -- ---- tables

  -- the table of a text is in order
  pub table_rises : (text : List ℕ) (t : Table) → IsTableOf at text t → IsTable t
  table_rises text t is = shown_tables_rise is.script.accounts (calls_before at is.script.calls) t is.shows

module _ (options : DiffOptions) where
  -- ---- two tables

  -- the tables of two texts, and exactly what differs between them
  pub record AreCompared (a b : List ℕ) (lone : List Lone) (ds : List Difference) : Type 0 where
    pub before : Table
    pub after : Table
    pub is_before : IsTableOf options.old_at a before
    pub is_after : IsTableOf options.new_at b after
    pub exact : AreDifferences before after lone ds

  -- the text of what is to be shown is that of what changed
  pub text_between : {a b : List ℕ} {lone : List Lone} {ds : List Difference} → AreCompared a b lone ds
      → (text : List ℕ) → text ≡ differences_text (lone_shown options.more lone) (shown options.more ds)
      → IsTextBetween (IsTextOfProcesses options) a b text
  text_between {lone = lone} {ds = ds} c text is =
      let old = c.is_before.script in
      let new = c.is_after.script in
      record {
        scripts = (old, new);
        are_read = λ i. both_read (c.is_before.is_read i) (c.is_after.is_read i);
        is_text = record {
          lone = lone;
          changes = ds;
          are_changes = differences_are_changes old.accounts new.accounts (calls_before options.old_at old.calls)
              (calls_before options.new_at new.calls) c.before c.after lone ds c.is_before.shows c.is_after.shows c.exact;
          is = is;
          none = subst (λ (t : List ℕ). (t ≡ []) ↔ ((lone_shown options.more lone ≡ []) × (shown options.more ds ≡ []))) (sym is)
              (no_text (lone_shown options.more lone) (shown options.more ds));
        };
      }

  -- the tables by users of two texts, and what differs between them
  pub record AreComparedForUsers (a b : List ℕ) (lone : List LoneUser) (ds : List UserDifference) : Type 0 where
    pub before : UsersTable
    pub after : UsersTable
    pub is_before : IsUsersTableOf options.old_at a before
    pub is_after : IsUsersTableOf options.new_at b after
    pub are : AreUserDifferences before after lone ds

  -- the text of what is to be shown is that of what changed for users
  pub users_text_between : {a b : List ℕ} {lone : List LoneUser} {ds : List UserDifference} → AreComparedForUsers a b lone ds
      → (text : List ℕ) → text ≡ user_differences_text (lone_users_shown options.more lone) (user_changes_shown options.more ds)
      → IsTextBetween (IsTextOfUsers options) a b text
  users_text_between {lone = lone} {ds = ds} c text is =
      let old = c.is_before.script in
      let new = c.is_after.script in
      let same = user_differences_are_changes old.accounts (state_before options.old_at old) new.accounts (state_before options.new_at new) c.before
      c.after lone ds c.is_before.shows c.is_after.shows c.are in
      let gone_or_new = lone_users_shown options.more (lone_users_of (old, new)) in
      let changed = user_changes_shown options.more (user_changes_of options (old, new)) in
      let whole : text ≡ user_differences_text gone_or_new changed =
      is ∙ (λ i. user_differences_text (lone_users_shown options.more (same.0 i)) (user_changes_shown options.more (same.1 i))) in
      record {
        scripts = (old, new);
        are_read = λ i. both_read (c.is_before.is_read i) (c.is_after.is_read i);
        is_text = record {
          is = whole;
          none = subst (λ (t : List ℕ). (t ≡ []) ↔ ((gone_or_new ≡ []) × (changed ≡ []))) (sym whole) (no_user_text gone_or_new changed);
        };
      }

  module _ (a b : List ℕ) where
    -- the text of what changed for users is that of what changed, if users are asked for
    pub of_users : options.users ≡ true → (result : Result (Vec ℕ) Fault) → ReadsUserChanges options a b result
        → ReadsChanges options a b result
    of_users asked (Ok text) is = record {
      scripts = is.scripts;
      are_read = is.are_read;
      is_text = subst (λ t. MatchBool t (IsTextOfUsers options is.scripts text.items) (IsTextOfProcesses options is.scripts text.items)) (sym asked)
          is.is_text;
    }
    of_users asked (Err fault) is = is

    -- and else that of what changed for processes
    pub of_processes : options.users ≡ false → (result : Result (Vec ℕ) Fault) → ReadsProcessChanges options a b result
        → ReadsChanges options a b result
    of_processes not_asked (Ok text) is = record {
      scripts = is.scripts;
      are_read = is.are_read;
      is_text = subst (λ t. MatchBool t (IsTextOfUsers options is.scripts text.items) (IsTextOfProcesses options is.scripts text.items))
          (sym not_asked) is.is_text;
    }
    of_processes not_asked (Err fault) is = is

  -- ---- the text

  module _ (a b text : List ℕ) (is : IsTextBetween (IsTextOfChanges options) a b text) (old new : Option (List ℕ)) where
    -- the text was written
    pub text_written : (none : Bool) → (none ≡ true) ↔ (text ≡ []) → Appends old new text → ComparesTexts options a b old new (Ok none)
    text_written none answered written = record {
      faults = ap is_ok is.are_read;
      writes = record {
        scripts = is.scripts;
        are_read = is.are_read;
        text = text;
        is_text = is.is_text;
        written = written;
        answered = answered;
      };
    }

    -- a beginning of the text was written
    pub text_begun : AppendsFront old new text → ComparesTexts options a b old new (Err WriteFailed)
    text_begun front = record {
      faults = ap is_ok is.are_read;
      writes = record { scripts = is.scripts; are_read = is.are_read; text = text; is_text = is.is_text; written = front };
    }

  -- ---- inputs that are taken

  -- an error of the old input stops the reading
  pub stops_at_old : (e : InputError) (left rest later w : Option (List ℕ)) → TakesSome left rest
      → ComparesInputs options (left, later) (rest, later) w w (Err (input_fault e))
  stops_at_old input.OutOfMemory left rest later w takes = inl (inl (record { takes_old = takes; keeps_new = refl }), Keeps-refl w)
  stops_at_old input.ReadFailed left rest later w takes = (inl (record { takes_old = takes; keeps_new = refl }), Keeps-refl w)

  -- an error of the new input stops the reading
  pub stops_at_new : (e : InputError) (left rest : Inputs) (v : Option (List ℕ)) (taken : List ℕ) → TakesAll left.0 rest.0 taken
      → TakesSome left.1 rest.1
      → ComparesInputs options left rest v v (Err (input_fault e))
  stops_at_new input.OutOfMemory left rest v taken all some = inl
      (inr (record { old_taken = taken; takes_old = all; takes_new = some }), Keeps-refl v)
  stops_at_new input.ReadFailed left rest v taken all some = (inr (record { old_taken = taken; takes_old = all; takes_new = some }), Keeps-refl v)

  -- what was taken was compared
  pub compares_taken : (left rest : Inputs) (old new : Option (List ℕ)) (result : Answer) → ComparesTaken options left rest old new result
      → is_read_failed result ≡ false
      → ComparesInputs options left rest old new result
  compares_taken left rest old new (Ok none) h reads = h
  compares_taken left rest old new (Err (BadScript n)) h reads = h
  compares_taken left rest old new (Err TooLong) h reads = h
  compares_taken left rest old new (Err OutOfMemory) h reads = inr h
  compares_taken left rest old new (Err ReadFailed) h reads = absurd (false≢true (sym reads))
  compares_taken left rest old new (Err WriteFailed) h reads = h

  -- the texts of the whole inputs compare as what was taken of them
  same_texts : {c d : List ℕ} → (a b : List ℕ) (old new : Option (List ℕ)) (result : Answer) → scripts_of c d ≡ scripts_of a b
      → ComparesTexts options c d old new result → ComparesTexts options a b old new result
  same_texts a b old new result same compares = record {
    faults = subst (λ (read : Result Scripts Fault). MatchResult result (λ _. IsOk read) (IsFaultOf read)) same compares.faults;
    writes = subst (λ (read : Result Scripts Fault). MatchResult result (WritesChanges options old new read)
        (ChangesAtFault options old new read)) same compares.writes;
  }

  taken_known : (a b : Option (List ℕ)) (rest : Inputs) (old new : Option (List ℕ)) (result : Answer)
      → ComparesTaken options (a, b) rest old new result
      → IfSome a (λ x. IfSome b (λ y. ComparesTexts options x y old new result))
  taken_known None b rest old new result h = tt
  taken_known (Some x) None rest old new result h = tt
  taken_known (Some x) (Some y) rest old new result h =
      same_texts x y old new result
      (λ i. both_read (same_script x rest.0 h.old_taken h.takes_old i) (same_script y rest.1 h.new_taken h.takes_new i)) h.compares

  stopped_known : {rest : Inputs} → (a b old new : Option (List ℕ)) (result : Answer)
      → ((x y : List ℕ) → Keeps old new → ComparesTexts options x y old new result)
      → StopsAtInput (a, b) rest old new → IfSome a (λ x. IfSome b (λ y. ComparesTexts options x y old new result))
  stopped_known None b old new result runs h = tt
  stopped_known (Some x) None old new result runs h = tt
  stopped_known (Some x) (Some y) old new result runs h = runs x y h.1

  -- if the inputs are known, they were compared
  pub inputs_known : (a b : Option (List ℕ)) (rest : Inputs) (old new : Option (List ℕ)) (result : Answer)
      → ComparesInputs options (a, b) rest old new result
      → IfSome a (λ x. IfSome b (λ y. ComparesTexts options x y old new result))
  inputs_known a b rest old new (Ok none) h = taken_known a b rest old new (Ok none) h
  inputs_known a b rest old new (Err (BadScript n)) h = taken_known a b rest old new (Err (BadScript n)) h
  inputs_known a b rest old new (Err TooLong) h = taken_known a b rest old new (Err TooLong) h
  inputs_known a b rest old new (Err OutOfMemory) (inl h) = stopped_known a b old new (Err OutOfMemory)
      (λ x y keeps. record { faults = tt; writes = inl keeps }) h
  inputs_known a b rest old new (Err OutOfMemory) (inr h) = taken_known a b rest old new (Err OutOfMemory) h
  inputs_known a b rest old new (Err ReadFailed) h = stopped_known a b old new (Err ReadFailed)
      (λ x y keeps. record { faults = tt; writes = keeps }) h
  inputs_known a b rest old new (Err WriteFailed) h = taken_known a b rest old new (Err WriteFailed) h

-- ---- no changes

-- a text is empty exactly if it has length 0
pub none_written : (text : List ℕ) (none : Bool) → none ≡ (length text == 0) → (none ≡ true) ↔ (text ≡ [])
none_written [] none is = (λ _. refl, λ _. is)
none_written (c ∷ text) none is = (
  λ none_is.
      let e = sym is ∙ none_is in
      let zero : length (c ∷ text) ≡ 0 = grind (arith, nat_tests, e) in
      absurd (omega (arith, zero)),
  λ empty. absurd (cc),
)

-- ---- failed reads

-- a failed read of the old source
pub old_fails : (e : InputError) (a b c : ℕ) → CountsFailure a b (fails_to_read {A = Unit {0}} (Err e))
    → CountsOneFailure a b c c (is_read_failed {A = Bool} (Err (input_fault e)))
old_fails input.OutOfMemory a b c counts = (true, counts, refl)
old_fails input.ReadFailed a b c counts = (true, counts, refl)

-- a failed read of the new source
pub new_fails : (e : InputError) (a b c d : ℕ) → CountsFailure a b false → CountsFailure c d (fails_to_read {A = Unit {0}} (Err e))
    → CountsOneFailure a b c d (is_read_failed {A = Bool} (Err (input_fault e)))
new_fails input.OutOfMemory a b c d kept counts = (false, kept, counts)
new_fails input.ReadFailed a b c d kept counts = (false, kept, counts)

-- no failed read
pub none_fails : (a b c d : ℕ) (failed : Bool) → CountsFailure a b false → CountsFailure c d false → failed ≡ false
    → CountsOneFailure a b c d failed
none_fails a b c d true kept held none = absurd (false≢true (sym none))
none_fails a b c d false kept held none = (true, kept, held)
