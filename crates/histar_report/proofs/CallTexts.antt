-- The texts of a script that was read are one line each: the names of its users and groups, and those in its calls.
use Rattle.std.proofs.Common.{◌≡◌, ℕ, ◌+◌, ◌<◌, ◌≤◌, Bool, true, false, not, cond, ltb, List}
use Rattle.std.proofs.Common.{[], ◌∷◌, ◌++◌, length, Ok, Err}
use Rattle.std.proofs.Common.{refl, sym, subst, inl, inr, arith}
use Rattle.std.specs.Prelude.{IsTrue}
use Rattle.std.specs.List.{AllByRecursion, list_all}
use Rattle.std.proofs.lemmas.Bool.{and_parts, ltb-false, or_parts}
use Rattle.std.proofs.lemmas.List.Elements.{All-from_recursion, recursion_from_All}
use Rattle.histar_flat.specs.declared.calls.CallLine.{CallLine}
use Rattle.histar_flat.specs.declared.calls.Mode.{Mode}
use Rattle.histar_flat.specs.declared.calls.Mode.TheVariants as modes
use Rattle.histar_flat.specs.declared.calls.UnixCall.{UnixCall}
use Rattle.histar_flat.specs.declared.calls.User.{User}
use Rattle.histar_flat.specs.Accounts.{Accounts, Group}
use Rattle.histar_flat.specs.Meaning.{first_user}
use Rattle.histar_flat.specs.Modes.{is_line_mode}
use Rattle.histar_flat.specs.Texts.{process_text}
use Rattle.histar_flat.specs.Words.{Path, is_dots, is_name, is_name_byte, is_user_name}
use Rattle.histar_script.specs.CallForms.{Argument, CallForm, Spells, Value, a_mode, a_name, a_number, a_password, a_path, a_process}
use Rattle.histar_script.specs.CallForms.{alone, any_bytes, call_forms, one, two}
use Rattle.histar_script.specs.Grammar.{Adds, IsCallText, IsScript, Says, SpellsCall, TakesLines}
use Rattle.histar_script.specs.Lines.{is_too_long, lines_of, most_script_bytes, most_script_lines}
use Rattle.histar_script.specs.Reading.{reading, script_of}
use Rattle.histar_script.specs.Script.{ScriptModel, nothing_read}
use Rattle.histar_script.specs.declared.fault.Fault.TheVariants.{TooLong}
use Rattle.histar_script.specs.declared.items.Item.{Item}
use Rattle.histar_script.specs.declared.items.Item.TheVariants as items
use Rattle.histar_script.proofs.Beginnings.{said_is_one_line}
use Rattle.histar_script.proofs.Kept.{is_declared, numbered}
use Rattle.histar_script.proofs.ScriptsBack.{found_from}
use Rattle.histar_script.proofs.WordsBack.{bytes_lack, user_name_is_name}
use Rattle.histar_report.proofs.OneLines.{IsOneLine, joined, parts_lined}
use Rattle.histar_report.proofs.StateTexts.{IsLinedCall, IsLinedMode, IsLinedPath}

-- ---- the values of arguments

-- a name
name_lined : (name : List ℕ) → is_name name ≡ true → IsOneLine name
unfolding is_name
name_lined name right =
    bytes_lack is_name_byte 10 name refl (and_parts _ (list_all is_name_byte name) (and_parts _ (not (is_dots name)) right).0).1

-- a path
path_lined : (q : Path) → list_all is_name q ≡ true → IsLinedPath q
path_lined [] named = refl
path_lined (n ∷ d) named = let parts = and_parts (is_name n) (list_all is_name d) named in rw (name_lined n parts.0, path_lined d parts.1) refl

-- the texts in a value are one line each
abbrev IsLinedValue : (a : Argument) → Value a → Type 0
IsLinedValue a_path q = IsLinedPath q
IsLinedValue a_mode mode = IsLinedMode mode
IsLinedValue any_bytes bytes = IsOneLine bytes
IsLinedValue a_name name = IsOneLine name
IsLinedValue a_password password = Unit {0}
IsLinedValue a_process process = Unit {0}
IsLinedValue (a_number greatest) n = Unit {0}

-- a mode that a line can name
mode_lined : (mode : Mode) → is_line_mode mode ≡ true → IsLinedMode mode
mode_lined modes.Private right = tt
mode_lined modes.Readable right = tt
mode_lined modes.Open right = tt
mode_lined (modes.Group name) right = name_lined name (user_name_is_name name right)

-- a value that one line spells
value_lined : (a : Argument) (text : List ℕ) (x : Value a) → IsOneLine text → Spells a text x → IsLinedValue a x
value_lined a_path text q line is = path_lined q (and_parts _ (list_all is_name q) is.1).1
value_lined a_mode text mode line is = mode_lined mode is.1
value_lined any_bytes text bytes line is = subst IsOneLine is line
value_lined a_name text name line is = name_lined name is.1
value_lined a_password text password line is = tt
value_lined a_process text process line is = tt
value_lined (a_number greatest) text n line is = tt

-- ---- calls

-- the calls that a form makes of such values have texts of one line
abbrev IsLinedForm : CallForm → Type 0
IsLinedForm (alone word call) = IsLinedCall call
IsLinedForm (one word a make) = (x : Value a) → IsLinedValue a x → IsLinedCall (make x)
IsLinedForm (two word a b make) = (x : Value a) (y : Value b) → IsLinedValue a x → IsLinedValue b y → IsLinedCall (make x y)

-- so it is with each form
forms_lined : AllByRecursion IsLinedForm call_forms
forms_lined = (
  (refl, tt),
  (
    (refl, tt),
    (
      (λ q mode at named. (at, (refl, named))),
      (
        (λ q mode at named. (at, (tt, named))),
        (
          (λ q bytes at new. (at, (λ old h. new))),
          (
            (λ q bytes at new. (at, (λ old h. joined old bytes h new))),
            (
              (λ q at. (at, tt)),
              (
                (λ q at. (at, tt)),
                (
                  (λ q at. (at, tt)),
                  (
                    (λ q at. (at, tt)),
                    (
                      (λ q at. (at, tt)),
                      (
                        (λ q at. (at, tt)),
                        (
                          (λ q name at new. (at, new)),
                          (
                            (λ q at. (at, tt)),
                            (
                              (λ n h. (refl, tt)),
                              (
                                (λ process h. (refl, tt)),
                                (
                                  (λ process h. (refl, tt)),
                                  ((λ name password user h. (refl, user)), tt),
                                ),
                              ),
                            ),
                          ),
                        ),
                      ),
                    ),
                  ),
                ),
              ),
            ),
          ),
        ),
      ),
    ),
  ),
)

-- a call that one line spells by a form
form_lined : (text : List ℕ) (call : UnixCall) (form : CallForm) → IsOneLine text → IsLinedForm form → SpellsCall text call form
    → IsLinedCall call
form_lined text call (alone word made) line right is = subst IsLinedCall (sym is.1) right
form_lined text call (one word a make) line right is =
    let first = (parts_lined word (32 ∷ is.0) (subst IsOneLine is.2 line)).1 in
    subst IsLinedCall (sym is.4) (right is.1 (value_lined a is.0 is.1 first is.3))
form_lined text call (two word a b make) line right is =
    let after = (parts_lined word (32 ∷ is.0 ++ 32 ∷ is.1) (subst IsOneLine is.4 line)).1 in
    let parts = parts_lined is.0 (32 ∷ is.1) after in
    subst IsLinedCall (sym is.7) (right is.2 is.3 (value_lined a is.0 is.2 parts.0 is.5) (value_lined b is.1 is.3 parts.1 is.6))

-- a call that one line spells
call_lined : (text : List ℕ) (call : UnixCall) → IsOneLine text → IsCallText text call → IsLinedCall call
call_lined text call line is =
    form_lined text call is.1 line (subst IsLinedForm is.3 (All-from_recursion IsLinedForm call_forms forms_lined is.0 is.1 is.2)) is.4

-- ---- scripts

-- the texts in a call line are one line each
abbrev IsLinedLine : CallLine → Type 0
IsLinedLine c = IsLinedCall c.call

-- one more line
pushed : (calls : List CallLine) (c : CallLine) → AllByRecursion IsLinedLine calls → IsLinedLine c
    → AllByRecursion IsLinedLine (calls ++ c ∷ [])
pushed [] c all last = (last, tt)
pushed (d ∷ calls) c all last = (all.0, pushed calls c all.1 last)

-- the calls after a line that says an item
item_lined : (old new : ScriptModel) (n : ℕ) (line : List ℕ) (item : Item) → Says line item → Adds old n item new
    → AllByRecursion IsLinedLine old.calls → AllByRecursion IsLinedLine new.calls
item_lined old new n line items.Comment says adds all = subst (λ (s : ScriptModel). AllByRecursion IsLinedLine s.calls) (sym adds) all
item_lined old new n line (items.User u) says adds all = subst (λ (s : ScriptModel). AllByRecursion IsLinedLine s.calls) (sym adds.4) all
item_lined old new n line (items.Group g) says adds all = subst (λ (s : ScriptModel). AllByRecursion IsLinedLine s.calls) (sym adds.5) all
item_lined old new n line (items.Call p call) (inl empty) adds all = absurd cc
item_lined old new n line (items.Call p call) (inr says) adds all =
    let whole = said_is_one_line line (items.Call p call) (inr says) in
    let rest = (parts_lined (process_text p) (32 ∷ says.1.0) (subst IsOneLine says.1.1 whole)).1 in
    subst (λ (s : ScriptModel). AllByRecursion IsLinedLine s.calls) (sym adds.2)
    (pushed old.calls (record { line = n; process = p; call = call }) all (call_lined says.1.0 call rest says.1.3))

-- the calls after lines that are taken
lines_lined : (old new : ScriptModel) (n : ℕ) (lines : List (List ℕ)) → TakesLines old n lines new → AllByRecursion IsLinedLine old.calls
    → AllByRecursion IsLinedLine new.calls
lines_lined old new n [] taken all = subst (λ (s : ScriptModel). AllByRecursion IsLinedLine s.calls) (sym taken) all
lines_lined old new n (line ∷ lines) taken all =
    lines_lined taken.0 new (n + 1) lines taken.2 (item_lined old taken.0 (n + 1) line taken.1.0 taken.1.1 taken.1.2 all)

-- ---- what was read

-- the names that a script declares are one line each
pub record AreLinedNames (accounts : Accounts) : Type 0 where
  pub users : AllByRecursion (λ (u : User). IsOneLine u.name) accounts.users
  pub groups : AllByRecursion (λ (g : Group). IsOneLine g.name) accounts.groups

-- a script that was read: its texts are one line each, and its lines have small numbers
pub record IsLinedScript (script : ScriptModel) : Type 0 where
  pub names : AreLinedNames script.accounts
  pub calls : AllByRecursion (λ (c : CallLine). IsLinedCall c.call) script.calls
  pub few : AllByRecursion (λ (c : CallLine). c.line ≤ most_script_lines) script.calls

-- the names of users
users_lined : (users : List User) → AllByRecursion (λ (u : User). IsTrue (is_user_name u.name)) users
    → AllByRecursion (λ (u : User). IsOneLine u.name) users
users_lined [] all = tt
users_lined (u ∷ users) all = (name_lined u.name (user_name_is_name u.name all.0), users_lined users all.1)

-- the names of groups
groups_lined : (groups : List Group) → AllByRecursion (λ (g : Group). IsTrue (is_user_name g.name)) groups
    → AllByRecursion (λ (g : Group). IsOneLine g.name) groups
groups_lined [] all = tt
groups_lined (g ∷ groups) all = (name_lined g.name (user_name_is_name g.name all.0), groups_lined groups all.1)

-- the first user
pub first_lined : (accounts : Accounts) → AreLinedNames accounts → IsOneLine (first_user accounts.users)
first_lined accounts names = by accounts.users names.users
  where
    by : (users : List User) → AllByRecursion (λ (u : User). IsOneLine u.name) users → IsOneLine (first_user users)
    by [] all = refl
    by (u ∷ users) all = all.0

-- numbers of lines are small where there are few lines
few_lines : (lines : ℕ) (calls : List CallLine) → lines ≤ most_script_lines
    → AllByRecursion (λ (c : CallLine). (0 < c.line) × (c.line ≤ lines)) calls
    → AllByRecursion (λ (c : CallLine). c.line ≤ most_script_lines) calls
few_lines lines [] few all = tt
few_lines lines (c ∷ calls) few all = let own = all.0.1 in (omega (arith, own), few_lines lines calls few all.1)

-- what is read is a script of few lines
is_read : (text : List ℕ) (script : ScriptModel) → script_of text ≡ Ok script
    → IsScript text script × (length (lines_of text) ≤ most_script_lines)
is_read text script read = by (is_too_long text) refl read
  where
    by : (t : Bool) → is_too_long text ≡ t → cond t (Err TooLong) (reading text) ≡ Ok script
        → IsScript text script × (length (lines_of text) ≤ most_script_lines)
    by true long is = absurd cc
    by false short is = (
      found_from text script is,
      ltb-false most_script_lines (length (lines_of text))
          (or_parts (ltb most_script_bytes (length text)) (ltb most_script_lines (length (lines_of text))) short).1,
    )

-- so is what a text is read as
pub read_lined : (text : List ℕ) (script : ScriptModel) → script_of text ≡ Ok script → IsLinedScript script
read_lined text script read =
    let is = is_read text script read in
    let declared = is_declared text script is.0 in
    record {
      names = record {
        users = users_lined script.accounts.users (recursion_from_All _ script.accounts.users declared.users.named);
        groups = groups_lined script.accounts.groups (recursion_from_All _ script.accounts.groups declared.groups.named);
      };
      calls = lines_lined nothing_read script 0 (lines_of text) is.0.0 tt;
      few = few_lines (length (lines_of text)) script.calls is.1 (recursion_from_All _ script.calls (numbered text script is.0).within);
    }
