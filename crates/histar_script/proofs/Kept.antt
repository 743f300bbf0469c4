-- Invariants of reading, line by line.
use Rattle.std.proofs.Common.{◌≡◌, ◌≢◌, ℕ, ◌+◌, ◌<◌, ◌≤◌, List, [], ◌∷◌, ◌++◌, length, refl, sym, subst, arith, length-append, IsTrue}
use Rattle.std.specs.Prelude.{All, AllPairs}
use Rattle.std.proofs.lemmas.List.Elements.{All-nil, All-push}
use Rattle.std.proofs.lemmas.List.Quantifiers.{all_pairs_push}
use Rattle.histar_flat.specs.declared.calls.User.{User}
use Rattle.histar_flat.specs.declared.calls.CallLine.{CallLine}
use Rattle.histar_flat.specs.Words.{Name, is_user_name}
use Rattle.histar_flat.specs.Accounts.{Accounts, Group, most_users, with_user, with_group}
use Rattle.histar_script.specs.declared.items.Item.{Item}
use Rattle.histar_script.specs.declared.items.Item.TheVariants as items
use Rattle.histar_script.specs.Lines.{lines_of}
use Rattle.histar_script.specs.Script.{ScriptModel, nothing_read, IsMembership, AreGroups, IsDeclared, IsNumbered}
use Rattle.histar_script.specs.Grammar.{Says, Adds, TakesLines, IsScript}
use Rattle.histar_script.proofs.ItemsBack.{spells_user, spells_group}

-- the user's name is valid
abbrev IsNamed : User → Type 0
IsNamed u = IsTrue (is_user_name u.name)

-- two users have different names
abbrev Differ : User → User → Type 0
Differ u v = u.name ≢ v.name

-- the group's name is valid
abbrev IsNamedGroup : Group → Type 0
IsNamedGroup g = IsTrue (is_user_name g.name)

-- no user has the name
abbrev IsNoUser : List User → Name → Type 0
IsNoUser users name = All (λ u. u.name ≢ name) users

-- two groups have different names
abbrev GroupsDiffer : Group → Group → Type 0
GroupsDiffer g h = g.name ≢ h.name

-- one call comes before the other
abbrev Precedes : CallLine → CallLine → Type 0
Precedes c d = c.line < d.line

-- the call is on one of the first n lines
abbrev IsAmong : ℕ → CallLine → Type 0
IsAmong n c = (0 < c.line) × (c.line ≤ n)

-- ---- groups

-- if no group is declared, the groups are valid
no_groups : (accounts : Accounts) → accounts.groups ≡ [] → AreGroups accounts
no_groups accounts none = record {
  few = rw none (omega arith);
  named = rw none (All-nil IsNamedGroup);
  no_users = rw none (All-nil (λ g. IsNoUser accounts.users g.name));
  distinct = rw none (λ i j d lt in_list. absurd (omega arith));
  members = rw none (All-nil (IsMembership accounts.users));
}

-- the groups stay valid with one more, of a new name and with users as its members
one_more : (accounts : Accounts) (g : Group) → AreGroups accounts → length accounts.groups < 8 → IsNamedGroup g
    → IsNoUser accounts.users g.name → All (λ h. h.name ≢ g.name) accounts.groups → IsMembership accounts.users g
    → AreGroups (with_group accounts g)
one_more accounts g k room named no_user new members = record {
  few = omega (arith, room, length-append accounts.groups (g ∷ []));
  named = All-push IsNamedGroup accounts.groups g k.named named;
  no_users = All-push (λ h. IsNoUser accounts.users h.name) accounts.groups g k.no_users no_user;
  distinct = all_pairs_push GroupsDiffer accounts.groups g k.distinct new;
  members = All-push (IsMembership accounts.users) accounts.groups g k.members members;
}

-- ---- lines

-- what was read in the first n lines is valid
record Kept (s : ScriptModel) (n : ℕ) : Type 0 where
  most : length s.accounts.users ≤ most_users
  named : All IsNamed s.accounts.users
  distinct : AllPairs Differ s.accounts.users
  groups : AreGroups s.accounts
  rising : AllPairs Precedes s.calls
  within : All (IsAmong n) s.calls

-- this holds before the first line
kept_at_first : Kept nothing_read 0
kept_at_first = record {
  most = omega arith;
  named = All-nil IsNamed;
  distinct = λ i j d lt in_list. absurd (omega arith);
  groups = no_groups nothing_read.accounts refl;
  rising = λ i j d lt in_list. absurd (omega arith);
  within = All-nil (IsAmong 0);
}

-- calls stay among the lines
among_more : (n : ℕ) (calls : List CallLine) → All (IsAmong n) calls → All (IsAmong (n + 1)) calls
among_more n calls h = λ k d lt. let w = h k d lt in (w.0, omega (arith, w.1))

-- this holds after a line that adds nothing
kept_later : (s : ScriptModel) (n : ℕ) → Kept s n → Kept s (n + 1)
kept_later s n k = record {
  most = k.most;
  named = k.named;
  distinct = k.distinct;
  groups = k.groups;
  rising = k.rising;
  within = among_more n s.calls k.within;
}

-- this holds after an item is added
kept_item : (s : ScriptModel) (n : ℕ) (line : List ℕ) (i : Item) (t : ScriptModel) → Kept s n → Says line i → Adds s (n + 1) i t → Kept t (n + 1)
kept_item s n line items.Comment t k said added = subst (λ (r : ScriptModel). Kept r (n + 1)) (sym added) (kept_later s n k)
kept_item s n line (items.User u) t k said added =
    let users = s.accounts.users in
    let is : Kept (record { accounts = with_user s.accounts u; calls = s.calls }) (n + 1) = record {
      most = omega (arith, added.2, length-append users (u ∷ []));
      named = All-push IsNamed users u k.named (spells_user line u said).name;
      distinct = all_pairs_push Differ users u k.distinct added.3;
      groups = no_groups (with_user s.accounts u) added.1;
      rising = k.rising;
      within = among_more n s.calls k.within;
    } in
    subst (λ (r : ScriptModel). Kept r (n + 1)) (sym added.4) is
kept_item s n line (items.Group g) t k said added =
    let is : Kept (record { accounts = with_group s.accounts g; calls = s.calls }) (n + 1) = record {
      most = k.most;
      named = k.named;
      distinct = k.distinct;
      groups = one_more s.accounts g k.groups added.1 (spells_group line g said).name added.2 added.3 added.4;
      rising = k.rising;
      within = among_more n s.calls k.within;
    } in
    subst (λ (r : ScriptModel). Kept r (n + 1)) (sym added.5) is
kept_item s n line (items.Call p c) t k said added =
    let call : CallLine = record { line = n + 1; process = p; call = c } in
    let is : Kept (record { accounts = s.accounts; calls = s.calls ++ call ∷ [] }) (n + 1) = record {
      most = k.most;
      named = k.named;
      distinct = k.distinct;
      groups = k.groups;
      rising = all_pairs_push Precedes s.calls call k.rising (λ i d lt. let w = k.within i d lt in omega (arith, w.1));
      within = All-push (IsAmong (n + 1)) s.calls call (among_more n s.calls k.within) (omega arith, omega arith);
    } in
    subst (λ (r : ScriptModel). Kept r (n + 1)) (sym added.2) is

-- this holds after all lines
kept_all : (s : ScriptModel) (n : ℕ) (lines : List (List ℕ)) (t : ScriptModel) → TakesLines s n lines t → Kept s n → Kept t (n + length lines)
kept_all s n [] t h k = let end : n ≡ n + 0 = omega arith in subst (λ (m : ℕ). Kept t m) end (subst (λ (r : ScriptModel). Kept r n) (sym h) k)
kept_all s n (line ∷ lines) t h k =
    let far : n + 1 + length lines ≡ n + length (line ∷ lines) = omega arith in
    subst (λ (m : ℕ). Kept t m) far (kept_all h.0 (n + 1) lines t h.2 (kept_item s n line h.1.0 h.0 k h.1.1 h.1.2))

-- this holds of a script
kept_script : (text : List ℕ) (script : ScriptModel) → IsScript text script → Kept script (0 + length (lines_of text))
kept_script text script is = kept_all nothing_read 0 (lines_of text) script is.0 kept_at_first

-- the users and the groups of a script are declared as the grammar says
pub is_declared : (text : List ℕ) (script : ScriptModel) → IsScript text script → IsDeclared script.accounts
is_declared text script is =
    let k = kept_script text script is in
    record {
      users = record { some = is.1; most = k.most; named = k.named; distinct = k.distinct };
      groups = k.groups;
    }

-- the calls of a script are numbered by its lines
pub numbered : (text : List ℕ) (script : ScriptModel) → IsScript text script → IsNumbered (length (lines_of text)) script.calls
numbered text script is =
    let k = kept_script text script is in record { rising = k.rising; within = λ i d lt. let w = k.within i d lt in (w.0, omega (arith, w.1)) }
