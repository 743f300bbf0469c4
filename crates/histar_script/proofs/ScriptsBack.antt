-- Reading takes lines as the grammar does, one after another.
use Rattle.std.proofs.Common.{◌≡◌, ℕ, ◌+◌, ◌<◌, Bool, true, false, not, cond, eqb, ltb, ◌&&◌, List, [], ◌∷◌, ◌++◌, length, Option, Some, None, Result}
use Rattle.std.proofs.Common.{Ok, Err, refl, sym, ap, subst, ◌∙◌}
use Rattle.std.proofs.lemmas.Option.{cond_some}
use Rattle.std.proofs.lemmas.Bool.{ltb-true, lt-ltb, and_parts, not-true}
use Rattle.histar_flat.specs.declared.calls.User.{User}
use Rattle.histar_flat.specs.Accounts.{Group, most_users, most_groups, with_user, with_group, is_group}
use Rattle.histar_flat.proofs.Options.{bind_some}
use Rattle.histar_script.specs.declared.fault.Fault.{Fault}
use Rattle.histar_script.specs.declared.fault.Fault.TheVariants.{BadScript}
use Rattle.histar_script.specs.declared.items.Item.{Item}
use Rattle.histar_script.specs.declared.items.Item.TheVariants as items
use Rattle.histar_script.specs.Lines.{lines_of}
use Rattle.histar_script.specs.Script.{ScriptModel, IsMembership, nothing_read, is_declared_call}
use Rattle.histar_script.specs.Reading.{item_of, has_user, is_empty, takes_user, are_users, are_distinct, is_new_name, takes_group, takes_call}
use Rattle.histar_script.specs.Reading.{with_item, with_line, with_lines, reading}
use Rattle.histar_script.specs.Grammar.{IsGroupText, Says, Adds, Takes, TakesLines, IsScript}
use Rattle.histar_script.proofs.Chains.{none_left, some_left, not_empty}
use Rattle.histar_script.proofs.ItemsBack.{item_takes, item_again, spells_group}
use Rattle.histar_script.proofs.Naming.{all_others, not_named, all_users, users_again, all_distinct, passes_distinct}

-- a group that is taken has users as its members
has_members : (line : List ℕ) (users : List User) (g : Group) → IsGroupText line g → are_users users g.members ≡ true
    → are_distinct g.members ≡ true → IsMembership users g
has_members line users g is known apart =
    record {
      some = is.some;
      few = is.few;
      declared = all_users users g.members known;
      distinct = all_distinct g.members apart;
    }

-- an item that reading takes adds to the script by the grammar
adds : (s : ScriptModel) (n : ℕ) (line : List ℕ) (i : Item) (t : ScriptModel) → Says line i → with_item s n i ≡ Some t → Adds s n i t
unfolding with_item
adds s n line items.Comment t said e = cc
adds s n line (items.User u) t said e =
    let g = cond_some (takes_user s u) (record { accounts = with_user s.accounts u; calls = s.calls }) t e in
    let users = s.accounts.users in
    let p = and_parts (is_empty s.accounts.groups && is_empty s.calls && ltb (length users) most_users) (not (has_user users u.name)) g.0 in
    let q = and_parts (is_empty s.accounts.groups && is_empty s.calls) (ltb (length users) most_users) p.0 in
    let r = and_parts (is_empty s.accounts.groups) (is_empty s.calls) q.0 in (
      none_left s.calls r.1,
      none_left s.accounts.groups r.0,
      ltb-true (length users) most_users q.1,
      all_others (λ (v : User). v.name) u.name users (not-true (has_user users u.name) p.1),
      sym g.1,
    )
adds s n line (items.Group g) t said e =
    let c = cond_some (takes_group s g) (record { accounts = with_group s.accounts g; calls = s.calls }) t e in
    let users = s.accounts.users in
    let groups = s.accounts.groups in
    let p =
    and_parts (is_empty s.calls && ltb (length groups) most_groups && is_new_name s.accounts g.name
    && are_users users g.members) (are_distinct g.members) c.0 in
    let q = and_parts (is_empty s.calls && ltb (length groups) most_groups && is_new_name s.accounts g.name) (are_users users g.members) p.0 in
    let r = and_parts (is_empty s.calls && ltb (length groups) most_groups) (is_new_name s.accounts g.name) q.0 in
    let f = and_parts (is_empty s.calls) (ltb (length groups) most_groups) r.0 in
    let new = and_parts (not (has_user users g.name)) (not (is_group s.accounts g.name)) r.1 in (
      none_left s.calls f.0,
      ltb-true (length groups) most_groups f.1,
      all_others (λ (v : User). v.name) g.name users (not-true (has_user users g.name) new.0),
      all_others (λ (h : Group). h.name) g.name groups (not-true (is_group s.accounts g.name) new.1),
      has_members line users g (spells_group line g said) q.1 p.1,
      sym c.1,
    )
adds s n line (items.Call p c) t said e =
    let g = cond_some (takes_call s c) (record { accounts = s.accounts; calls = s.calls ++ (record { line = n; process = p; call = c }) ∷ [] }) t e in
    let parts = and_parts (not (is_empty s.accounts.users)) (is_declared_call s.accounts c) g.0 in
    (some_left s.accounts.users (not-true (is_empty s.accounts.users) parts.0), parts.1, sym g.1)

-- an item that adds to the script by the grammar is taken by reading
adds_again : (s : ScriptModel) (n : ℕ) (i : Item) (t : ScriptModel) → Adds s n i t → with_item s n i ≡ Some t
unfolding with_item
adds_again s n items.Comment t h = ap (λ (x : ScriptModel). Some x) (sym h)
adds_again s n (items.User u) t h =
    let no_call : is_empty s.calls ≡ true = rw h.0 refl in
    let no_group : is_empty s.accounts.groups ≡ true = rw h.1 refl in
    let room : ltb (length s.accounts.users) most_users ≡ true = lt-ltb (length s.accounts.users) most_users h.2 in
    rw (no_group, no_call, room, not_named (λ (v : User). v.name) u.name s.accounts.users h.3) (ap (λ (x : ScriptModel). Some x) (sym h.4))
adds_again s n (items.Group g) t h =
    let no_call : is_empty s.calls ≡ true = rw h.0 refl in
    let room : ltb (length s.accounts.groups) most_groups ≡ true = lt-ltb (length s.accounts.groups) most_groups h.1 in
    let no_user : has_user s.accounts.users g.name ≡ false = not_named (λ (v : User). v.name) g.name s.accounts.users h.2 in
    let no_group : is_group s.accounts g.name ≡ false = not_named (λ (v : Group). v.name) g.name s.accounts.groups h.3 in
    rw (
      no_call,
      room,
      no_user,
      no_group,
      users_again s.accounts.users g.members h.4.declared,
      passes_distinct
          g.members h.4.distinct,
    ) (ap (λ (x : ScriptModel). Some x) (sym h.5))
adds_again s n (items.Call p c) t h = rw (not_empty s.accounts.users h.0, h.1) (ap (λ (x : ScriptModel). Some x) (sym h.2))

-- a line that reading takes is taken by the grammar
pub line_takes : (s : ScriptModel) (n : ℕ) (line : List ℕ) (t : ScriptModel) → with_line s n line ≡ Some t → Takes s n line t
unfolding with_line
line_takes s n line t e =
    let a = bind_some (item_of line) (λ i. with_item s n i) t e in
    let said = item_takes line a.0 a.1 in
    (a.0, said, adds s n line a.0 t said a.2)

-- a line that the grammar takes is taken by reading
pub line_again : (s : ScriptModel) (n : ℕ) (line : List ℕ) (t : ScriptModel) → Takes s n line t → with_line s n line ≡ Some t
unfolding with_line
line_again s n line t h = rw (item_again line h.0 h.1) (adds_again s n h.0 t h.2)

-- the result after a line
abbrev pub after : ℕ → (ScriptModel → Result ScriptModel Fault) → Option ScriptModel → Result ScriptModel Fault
after n rest o = elim o [ None ↦ Err (BadScript n) | Some t ↦ rest t ]

-- a chain that ends with a script took the line
pub taken : (o : Option ScriptModel) (n : ℕ) (rest : ScriptModel → Result ScriptModel Fault) (t : ScriptModel)
    → after n rest o ≡ Ok t → (m : ScriptModel) × (o ≡ Some m) × (rest m ≡ Ok t)
taken None n rest t e = absurd cc
taken (Some m) n rest t e = (m, refl, e)

-- if the last result is a script, it is this one
ended : (b : Bool) (f : Fault) (s t : ScriptModel) → cond b (Err f) (Ok s) ≡ Ok t → (b ≡ false) × (s ≡ t)
ended true f s t e = absurd cc
ended false f s t e = (refl, cc)

-- lines that are read are taken
pub lines_take : (s : ScriptModel) (n : ℕ) (lines : List (List ℕ)) (t : ScriptModel) → with_lines s n lines ≡ Ok t
    → TakesLines s n lines t × (0 < length t.accounts.users)
unfolding with_lines
lines_take s n [] t e =
    let g = ended (eqb (length s.accounts.users) 0) (BadScript (n + 1)) s t e in
    (sym g.1, subst (λ (x : ScriptModel). 0 < length x.accounts.users) g.1 (some_left s.accounts.users g.0))
lines_take s n (line ∷ lines) t e =
    let a = taken (with_line s (n + 1) line) (n + 1) (λ m. with_lines m (n + 1) lines) t e in
    let b = lines_take a.0 (n + 1) lines t a.2 in
    ((a.0, line_takes s (n + 1) line a.0 a.1, b.0), b.1)

-- lines that are taken are read
pub lines_again : (s : ScriptModel) (n : ℕ) (lines : List (List ℕ)) (t : ScriptModel) → TakesLines s n lines t
    → 0 < length t.accounts.users → with_lines s n lines ≡ Ok t
unfolding with_lines
lines_again s n [] t h some =
    let some_here : eqb (length s.accounts.users) 0 ≡ false =
    not_empty s.accounts.users (subst (λ (x : ScriptModel). 0 < length x.accounts.users) h some) in
    rw some_here (ap (λ (x : ScriptModel). Ok x) (sym h))
lines_again s n (line ∷ lines) t h some =
    ap (after (n + 1) (λ m. with_lines m (n + 1) lines)) (line_again s (n + 1) line h.0 h.1)
    ∙ lines_again h.0 (n + 1) lines t h.2 some

-- a text that is read is a script
pub found_from : (text : List ℕ) (script : ScriptModel) → reading text ≡ Ok script → IsScript text script
unfolding reading
found_from text script e = lines_take nothing_read 0 (lines_of text) script e

-- a script is read
pub again_from : (text : List ℕ) (script : ScriptModel) → IsScript text script → reading text ≡ Ok script
unfolding reading
again_from text script is = lines_again nothing_read 0 (lines_of text) script is.0 is.1
