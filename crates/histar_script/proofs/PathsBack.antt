-- Paths are read from the texts that spell them, and from no others.
use Rattle.std.proofs.Common.{◌≡◌, ℕ, zero, suc, ◌+◌, ◌-◌, ◌<◌, ◌≤◌, true, not, eqb, leb, List, [], ◌∷◌, ◌++◌, length, Option, Some, None, codes}
use Rattle.std.proofs.Common.{refl, sym, ap, subst, ◌∙◌, inl, inr, arith, append_assoc, length-append}
use Rattle.std.specs.List.{list_all}
use Rattle.std.proofs.lemmas.List.Folds.{list_all-append}
use Rattle.std.proofs.lemmas.Bool.{eqb-true, and_parts, leb-true, le-leb}
use Rattle.histar_flat.specs.Words.{Name, Path, is_name, is_path, most_names, slash, split_at_first, path_from, path_from_root, path_of}
use Rattle.histar_flat.specs.Texts.{names_text, path_text}
use Rattle.histar_flat.proofs.SplitLemmas.{lacks, split_before, split_alone}
use Rattle.histar_flat.proofs.Options.{either_chosen}
use Rattle.histar_script.specs.Lines.{split_word, ◌space◌}
use Rattle.histar_script.proofs.Parting.{split_parts, split_part}
use Rattle.histar_script.proofs.WordsBack.{name_lacks_space, name_lacks_slash, name_has_bytes}

-- ---- what is read is spelled

-- the path that is found below a directory is spelled
abbrev IsFound : Path → ℕ → List ℕ → Path → Type 0
IsFound directory most bs path =
    (names_text directory ++ slash ∷ bs ≡ path_text path) × (list_all is_name path ≡ true)
    × (length path ≤ length directory + most)

-- the text of an entry is that of its directory, a slash and its name
entry_text : (directory : Path) (name : List ℕ) → names_text (name ∷ directory) ≡ names_text directory ++ slash ∷ name
entry_text directory name = append_assoc (names_text directory) (codes "/") name

-- a directory, a slash and a name, before more
with_name : (directory : Path) (name rest : List ℕ)
    → names_text directory ++ slash ∷ (name ++ slash ∷ rest) ≡ names_text (name ∷ directory) ++ slash ∷ rest
with_name directory name rest =
    sym (ap (λ (l : List ℕ). l ++ slash ∷ rest) (entry_text directory name)
    ∙ append_assoc (names_text directory) (slash ∷ name) (slash ∷ rest))

-- the name before the first slash
abbrev first_name : List ℕ → Name
first_name bs = (split_at_first slash bs).0

-- the path that what follows a directory's name leads to
abbrev rest_from : ℕ → Path → Name → Option (List ℕ) → Option Path
rest_from most directory name rest = elim rest [ None ↦ Some (name ∷ directory) | Some names ↦ path_from most (name ∷ directory) names ]

-- a name and what follows it are spelled
found_step : (most : ℕ) (directory : Path) (bs : List ℕ) (path : Path) (after : Option (List ℕ))
    → list_all is_name directory ≡ true → is_name (first_name bs) ≡ true → (split_at_first slash bs).1 ≡ after
    → ((rest : List ℕ) → list_all is_name (first_name bs ∷ directory) ≡ true
    → path_from most (first_name bs ∷ directory) rest ≡ Some path
    → IsFound (first_name bs ∷ directory) most rest path)
    → rest_from most directory (first_name bs) after ≡ Some path → IsFound directory (suc most) bs path
found_step most directory bs path None right name end later e =
    let same : first_name bs ∷ directory ≡ path = cc in
    let spelled : names_text directory ++ slash ∷ bs ≡ names_text directory ++ slash ∷ first_name bs =
    ap (λ l. names_text directory ++ slash ∷ l) (split_part slash bs end) in
    let named : list_all is_name (first_name bs ∷ directory) ≡ true = rw (name, right) refl in
    subst (IsFound directory (suc most) bs) same (spelled ∙ sym (entry_text directory (first_name bs)), named, omega arith)
found_step most directory bs path (Some rest) right name on later e =
    let named : list_all is_name (first_name bs ∷ directory) ≡ true = rw (name, right) refl in
    let below = later rest named e in
    let spelled = ap (λ l. names_text directory ++ slash ∷ l) (split_parts slash bs rest on) ∙ with_name directory (first_name bs) rest in
    (spelled ∙ below.0, below.1, omega (arith, below.2))

-- names that are read are spelled
found : (most : ℕ) (directory : Path) (bs : List ℕ) (path : Path) → list_all is_name directory ≡ true
    → path_from most directory bs ≡ Some path → IsFound directory most bs path
unfolding path_from
found zero directory bs path right e = absurd cc
found (suc most) directory bs path right e =
    let after = (split_at_first slash bs).1 in
    elim (either_chosen (is_name (first_name bs)) (rest_from most directory (first_name bs) after) None (Some path) e) [
      | inl h ↦ found_step most directory bs path after right h.0 refl (λ rest. found most (first_name bs ∷ directory) rest path) h.1
      | inr h ↦ absurd cc
    ]

-- what follows the first slash of a path is spelled
root_takes : (bs : List ℕ) (path : Path) → path_from_root bs ≡ Some path → (slash ∷ bs ≡ path_text path) × (is_path path ≡ true)
root_takes [] path e = let same : [] ≡ path = cc in subst (λ (q : Path). (slash ∷ [] ≡ path_text q) × (is_path q ≡ true)) same (refl, refl)
root_takes (b ∷ bs) path e =
    let f = found most_names [] (b ∷ bs) path refl e in
    (f.0, rw (le-leb (length path) most_names f.2, f.1) refl)

-- a text that is read as a path spells the path
pub path_takes : (text : List ℕ) (path : Path) → path_of text ≡ Some path → (text ≡ path_text path) × (is_path path ≡ true)
path_takes [] path e = absurd cc
path_takes (b ∷ bs) path e =
    elim (either_chosen (eqb b slash) (path_from_root bs) None (Some path) e) [
      | inl h ↦ let is = root_takes bs path h.1 in (ap (λ (x : ℕ). x ∷ bs) (eqb-true b slash h.0) ∙ is.0, is.1)
      | inr h ↦ absurd cc
    ]

-- ---- what is spelled is read

-- the names of a directory with slashes between them, before more
abbrev joined : Path → List ℕ → List ℕ
joined [] rest = rest
joined (n ∷ d) rest = joined d (n ++ slash ∷ rest)

-- with a slash before them these names are the directory's text
joined_text : (directory : Path) (rest : List ℕ) → slash ∷ joined directory rest ≡ names_text directory ++ slash ∷ rest
joined_text [] rest = refl
joined_text (n ∷ d) rest = joined_text d (n ++ slash ∷ rest) ∙ with_name d n rest

-- names are read up to the last of a directory
read_on : (directory : Path) (most : ℕ) (rest : List ℕ) → list_all is_name directory ≡ true
    → path_from (length directory + most) [] (joined directory rest) ≡ path_from most directory rest
unfolding path_from
read_on [] most rest right = let all : length {A = Name} [] + most ≡ most = omega arith in ap (λ k. path_from k [] rest) all
read_on (n ∷ d) most rest right =
    let p = and_parts (is_name n) (list_all is_name d) right in
    let left : length (n ∷ d) + most ≡ length d + suc most = omega arith in
    let split = split_before slash n rest (name_lacks_slash n p.0) in
    ap (λ k. path_from k [] (joined d (n ++ slash ∷ rest))) left
    ∙ read_on d (suc most) (n ++ slash ∷ rest) p.1
    ∙ rw (split, p.0, split) refl

-- the last name is read
read_last : (most : ℕ) (directory : Path) (name : Name) → is_name name ≡ true → path_from (suc most) directory name ≡ Some (name ∷ directory)
unfolding path_from
read_last most directory name h = let split = split_alone slash name (name_lacks_slash name h) in rw (split, h, split) refl

-- a text with bytes after its slash is not `/`
some_names : (bs : List ℕ) → 0 < length bs → path_from_root bs ≡ path_from most_names [] bs
some_names [] some = absurd (omega arith)
some_names (b ∷ bs) some = refl

-- a text that spells a path with names is read as the path
names_again : (name : Name) (directory : Path) → is_path (name ∷ directory) ≡ true → path_of (path_text (name ∷ directory)) ≡ Some (name ∷ directory)
names_again name directory h =
    let parts = and_parts (leb (length (name ∷ directory)) most_names) (list_all is_name (name ∷ directory)) h in
    let names = and_parts (is_name name) (list_all is_name directory) parts.1 in
    let short : length (name ∷ directory) ≤ 8 = leb-true (length (name ∷ directory)) most_names parts.0 in
    let text : slash ∷ joined directory name ≡ path_text (name ∷ directory) = joined_text directory name ∙ sym (entry_text directory name) in
    let long : length (slash ∷ joined directory name) ≡ length (names_text directory) + length (slash ∷ name) =
    ap length (joined_text directory name) ∙ length-append (names_text directory) (slash ∷ name) in
    let some : 0 < length (joined directory name) = omega (arith, long, name_has_bytes name names.0) in
    let most : 8 ≡ length directory + suc (7 - length directory) = omega (arith, short) in
    ap path_of (sym text)
    ∙ some_names (joined directory name) some
    ∙ ap (λ k. path_from k [] (joined directory name)) most
    ∙ read_on directory (suc (7 - length directory)) name names.1
    ∙ read_last (7 - length directory) directory name names.0

-- a text that spells a path is read as the path
pub path_again : (path : Path) → is_path path ≡ true → path_of (path_text path) ≡ Some path
path_again [] h = refl
path_again (n ∷ d) h = names_again n d h

-- ---- a path before a space

-- names with slashes have no space
names_lack_space : (path : Path) → list_all is_name path ≡ true → lacks 32 (names_text path) ≡ true
names_lack_space [] h = refl
names_lack_space (n ∷ d) h =
    let p = and_parts (is_name n) (list_all is_name d) h in
    ap (lacks 32) (entry_text d n) ∙ list_all-append (λ b. not (eqb b 32)) (names_text d) (slash ∷ n)
    ∙ rw (names_lack_space d p.1, name_lacks_space n p.0) refl

-- a path has no space
pub path_lacks_space : (path : Path) → list_all is_name path ≡ true → lacks 32 (path_text path) ≡ true
path_lacks_space [] h = refl
path_lacks_space (n ∷ d) h = names_lack_space (n ∷ d) h

-- a path ends at the space after it
pub split_path : (path : Path) (rest : List ℕ) → is_path path ≡ true → split_word (path_text path space rest) ≡ (path_text path, Some rest)
split_path path rest h =
    let names = and_parts (leb (length path) most_names) (list_all is_name path) h in
    split_before 32 (path_text path) rest (path_lacks_space path names.1)
