-- A claim names processes, and is met exactly if they are those that are trusted.
use Rattle.std.specs.Prelude.{◌≡◌, ◌==◌, ℕ, Bool, true, false, nat_le, not, suc, List, [], ◌∷◌, ◌++◌, codes, filter, length, map, Option, None, Some}
use Rattle.std.specs.Prelude.{is_some, if◌then◌else◌, refl}
use Rattle.std.specs.List.{cons_option, filter_map, join_with_byte, list_all, onto_first, slice_split}
use Rattle.std.proofs.Common.{arith, ap, eqb, sym, ◌∙◌, subst, append-nil}
use Rattle.std.proofs.lemmas.Bool.{and_parts, not-true, true≢false}
use Rattle.std.proofs.lemmas.List.Splits.{join_with_byte-slice_split, length-slice_split, slice_split-cons_no, slice_split-cons_yes}
use Rattle.std.proofs.lemmas.Option.{none-some, same_Some}
use Rattle.std.proofs.lemmas.Slice.Eq.{bytes_eq-Decides}
use Rattle.histar_flat.specs.Accounts.{Accounts}
use Rattle.histar_flat.specs.Files.{get}
use Rattle.histar_flat.specs.FlatCalls.{running}
use Rattle.histar_flat.specs.FlatState.{Flat, Node, is_dir}
use Rattle.histar_flat.specs.Texts.{process_text}
use Rattle.histar_flat.specs.Words.{Name, Path, ProcName, is_child_number, is_process as is_name, most_numbers, path_of, process_of, split_at_first}
use Rattle.histar_flat.proofs.SplitLemmas.{lacks}
use Rattle.histar_prefix.specs.Prefix.{calls_before, state_before}
use Rattle.histar_rights.specs.Running.{Named, running_in}
use Rattle.histar_script.specs.Lines.{split_word}
use Rattle.histar_script.specs.Reading.{◌>>=◌}
use Rattle.histar_script.proofs.ProcessesBack.{process_again, process_lacks_space, process_takes}
use Rattle.histar_secrecy.specs.Noninterference.{IsReached}
use Rattle.histar_secrecy.specs.Roles.{is_trusted}
use Rattle.histar_secrecy.specs.Ways.{way_to}
use Rattle.histar_trust.specs.TrustText.{is_open_way, trusted_with}
use Rattle.histar_trust.proofs.Runners.{AllOf, each_runs}
use Rattle.histar_test.specs.declared.claims.Claim.{Claim}
use Rattle.histar_test.specs.Checks.{answer_text, names_text, trusted_at, trusted_names, trusted_text}
use Rattle.histar_test.specs.Laws.{ClaimsAreMet}
use Rattle.histar_test.specs.Steps.{are_processes, claim_of, claimed_of, is_process_word}
use Rattle.histar_test.proofs.ChildNames.{running_is_named}

-- a line can say each of these names
abbrev AreSayable : List ProcName → Type 0
AreSayable names = AllOf (λ (p : ProcName). is_name p ≡ true) names

-- a line can say them, if there is an answer
abbrev IsSayable : Option (List ProcName) → Type 0
IsSayable None = Unit {0}
IsSayable (Some names) = AreSayable names

-- ---- the names in a text

-- the processes among the words of a text
abbrev decode : List ℕ → List ProcName
decode text = filter_map process_of (slice_split (λ b. b == 32) text)

-- a word before a space is the first of the words
word_before : (w rest : List ℕ) → lacks 32 w ≡ true → slice_split (λ b. b == 32) (w ++ 32 ∷ rest) ≡ w ∷ slice_split (λ b. b == 32) rest
word_before [] rest h = slice_split-cons_yes (λ b. b == 32) 32 rest refl
word_before (b ∷ w) rest h =
    let parts = and_parts (not (eqb b 32)) (lacks 32 w) h in
    slice_split-cons_no (λ c. c == 32) b (w ++ 32 ∷ rest) (not-true (eqb b 32) parts.0) ∙ ap (onto_first b) (word_before w rest parts.1)

-- without a space there is one word
word_alone : (w : List ℕ) → lacks 32 w ≡ true → slice_split (λ b. b == 32) w ≡ w ∷ []
word_alone [] h = refl
word_alone (b ∷ w) h =
    let parts = and_parts (not (eqb b 32)) (lacks 32 w) h in
    slice_split-cons_no (λ c. c == 32) b w (not-true (eqb b 32) parts.0) ∙ ap (onto_first b) (word_alone w parts.1)

-- processes with a space between two are their texts, joined by spaces
names_joined : (p : ProcName) (ps : List ProcName) → names_text (p ∷ ps) ≡ join_with_byte 32 (map process_text (p ∷ ps))
names_joined p [] = append-nil (process_text p)
names_joined p (q ∷ ps) = ap (λ (t : List ℕ). process_text p ++ 32 ∷ t) (names_joined q ps)

-- the numbers of a name that a line can say
numbers_right : (p : ProcName) → is_name p ≡ true → list_all is_child_number p ≡ true
numbers_right p h = (and_parts (nat_le (length p) most_numbers) (list_all is_child_number p) h).1

-- a process is read from its text, in front of others
read_first : (p : ProcName) (words : List (List ℕ)) → is_name p ≡ true
    → filter_map process_of (process_text p ∷ words) ≡ p ∷ filter_map process_of words
read_first p words h = ap (λ (o : Option ProcName). cons_option o (filter_map process_of words)) (process_again p h)

-- the names are read from their text
decoded_some : (p : ProcName) (ps : List ProcName) → AreSayable (p ∷ ps) → decode (names_text (p ∷ ps)) ≡ p ∷ ps
decoded_some p [] all =
    let lone = word_alone (process_text p) (process_lacks_space p (numbers_right p all.0)) in
    ap decode (append-nil (process_text p)) ∙ ap (filter_map process_of) lone ∙ read_first p [] all.0
decoded_some p (q ∷ ps) all =
    let first = word_before (process_text p) (names_text (q ∷ ps)) (process_lacks_space p (numbers_right p all.0)) in
    ap (filter_map process_of) first ∙ read_first p (slice_split (λ b. b == 32) (names_text (q ∷ ps))) all.0
    ∙ ap (λ (l : List ProcName). p ∷ l) (decoded_some q ps all.1)

-- `nobody` and `everyone` are no processes
nobody_decoded : decode (codes "nobody") ≡ []
unfolding split_at_first
nobody_decoded = refl

everyone_decoded : decode (codes "everyone") ≡ []
unfolding split_at_first
everyone_decoded = refl

decoded : (ps : List ProcName) → AreSayable ps → decode (names_text ps) ≡ ps
decoded [] all = nobody_decoded
decoded (p ∷ ps) all = decoded_some p ps all

-- names with the same text are the same
same_names : (a b : List ProcName) → AreSayable a → AreSayable b → names_text a ≡ names_text b → a ≡ b
same_names a b h k e = sym (decoded a h) ∙ ap decode e ∙ decoded b k

-- no processes have the text `everyone`
not_everyone : (a : List ProcName) → AreSayable a → names_text a ≡ codes "everyone" → ⊥
not_everyone a h e =
    let none : a ≡ [] = sym (decoded a h) ∙ ap decode e ∙ everyone_decoded in
    let same : codes "nobody" ≡ codes "everyone" = sym (ap names_text none) ∙ e in
    absurd (true≢false (sym ((bytes_eq-Decides (codes "nobody") (codes "everyone")).1 same)))

-- the answer has the processes
same_answer : (a : List ProcName) (o : Option (List ProcName)) → AreSayable a → IsSayable o
    → names_text a ≡ answer_text o → o ≡ Some a
same_answer a None h k e = absurd (not_everyone a h e)
same_answer a (Some b) h k e = ap (λ (l : List ProcName). let o : Option (List ProcName) = Some l in o) (sym (same_names a b h k e))

-- ---- the names of a claim

-- names with these texts
record AreOfWords (words : List (List ℕ)) : Type 0 where
  pub names : List ProcName
  pub right : AreSayable names
  pub spelled : map process_text names ≡ words

of_words : (words : List (List ℕ)) → list_all is_process_word words ≡ true → AreOfWords words
of_words [] all = record { names = []; right = tt; spelled = refl }
of_words (w ∷ words) all =
    let parts = and_parts (is_process_word w) (list_all is_process_word words) all in
    by (process_of w) refl parts.0 (of_words words parts.1)
  where
    by : (o : Option ProcName) → process_of w ≡ o → is_some (process_of w) ≡ true → AreOfWords words → AreOfWords (w ∷ words)
    by None e h rest = absurd (true≢false (sym h ∙ ap is_some e))
    by (Some p) e h rest =
        let takes = process_takes w p e in
        record {
          names = p ∷ rest.names;
          right = (takes.1, rest.right);
          spelled = λ i. sym takes.0 i ∷ rest.spelled i;
        }

-- the text names these processes
record AreNamed (wanted : List ℕ) : Type 0 where
  pub names : List ProcName
  pub right : AreSayable names
  pub text : wanted ≡ names_text names

named_in : (text : List ℕ) → (words : List (List ℕ)) → slice_split (λ b. b == 32) text ≡ words → list_all is_process_word words ≡ true → AreNamed text
named_in text [] e all =
    let none : length (slice_split (λ b. b == 32) text) ≡ 0 = ap length e in
    absurd (omega (arith, none, length-slice_split (λ b. b == 32) text))
named_in text (w ∷ words) e all =
    let of = of_words (w ∷ words) all in
    by of.names of.right of.spelled
  where
    by : (names : List ProcName) → AreSayable names → map process_text names ≡ w ∷ words → AreNamed text
    by [] right spelled = absurd cc
    by (p ∷ ps) right spelled = record {
      names = p ∷ ps;
      right = right;
      text = sym (join_with_byte-slice_split 32 text) ∙ ap (join_with_byte 32) (e ∙ sym spelled) ∙ sym (names_joined p ps);
    }

claimed_names : (o : Option (List ℕ)) (wanted : List ℕ) → claimed_of o ≡ Some wanted → AreNamed wanted
claimed_names None wanted e = record { names = []; right = tt; text = sym (same_Some (codes "nobody") wanted e) }
claimed_names (Some text) wanted e = by (are_processes text) refl e
  where
    by : (b : Bool) → are_processes text ≡ b → (if b then Some text else None) ≡ Some wanted → AreNamed wanted
    by true is same = subst AreNamed (same_Some text wanted same) (named_in text (slice_split (λ b. b == 32) text) refl is)
    by false is same = absurd (none-some wanted same)

claim_named : (n : ℕ) (text : List ℕ) (c : Claim) → claim_of n text ≡ Some c → AreNamed c.wanted
unfolding claim_of
claim_named n text c e = rest_of (split_word text).1 e
  where
    made : List ℕ → Path → List ℕ → Claim
    made said path wanted = record { line = n; said = said; path = path; wanted = wanted }

    wanted_of : (path : Path) (o : Option (List ℕ)) (w : Option (List ℕ)) → claimed_of o ≡ w
        → (w >>= λ wanted. Some (made text path wanted)) ≡ Some c → AreNamed c.wanted
    wanted_of path o None is e = absurd (none-some c e)
    wanted_of path o (Some w) is e =
        subst AreNamed (ap (λ (x : Claim). x.wanted) (same_Some (made text path w) c e)) (claimed_names o w is)

    path_in : (o : Option Path) (names : Option (List ℕ))
        → (o >>= λ path. claimed_of names >>= λ wanted. Some (made text path wanted)) ≡ Some c → AreNamed c.wanted
    path_in None names e = absurd (none-some c e)
    path_in (Some path) names e = wanted_of path names (claimed_of names) refl e

    rest_of : (o : Option (List ℕ))
        → (o >>= λ rest. path_of (split_word rest).0 >>= λ path. claimed_of (split_word rest).1 >>= λ wanted. Some (made text path wanted)) ≡ Some c
        → AreNamed c.wanted
    rest_of None e = absurd (none-some c e)
    rest_of (Some rest) e = path_in (path_of (split_word rest).0) (split_word rest).1 e

-- ---- the names of the trusted

-- the names of running processes that pass a test can be said
module _ (accounts : Accounts) (f : Flat) (reached : IsReached accounts f) where
  chosen_sayable : (test : ProcName → Bool) (cs : List Named) → AllOf (λ (c : Named). running f c.0 ≡ Some c.1) cs
      → AreSayable (map (λ (p : ProcName × Name). p.0)
      (map (λ (c : Named). let l : ProcName × Name = (c.0, c.1.user) in l) (filter (λ (c : Named). test c.0) cs)))
  chosen_sayable test [] all = tt
  chosen_sayable test (c ∷ cs) all = by (test c.0) (running_is_named accounts f reached c.0 c.1 all.0) (chosen_sayable test cs all.1)
    where
      more : List Named
      more = filter (λ (d : Named). test d.0) cs

      by : (b : Bool) → is_name c.0 ≡ true
          → AreSayable (map (λ (p : ProcName × Name). p.0) (map (λ (d : Named). let l : ProcName × Name = (d.0, d.1.user) in l) more))
          → AreSayable (map (λ (p : ProcName × Name). p.0)
          (map (λ (d : Named). let l : ProcName × Name = (d.0, d.1.user) in l) (if b then c ∷ more else more)))
      by true h rest = (h, rest)
      by false h rest = rest

  all_run : AllOf (λ (c : Named). running f c.0 ≡ Some c.1) (running_in f)
  unfolding running_in
  all_run = each_runs f (λ name. 0) (suc most_numbers) []

  -- the trusted have names that can be said
  trusted_sayable : (path : Path) (o : Option Node) → IsSayable (trusted_at accounts f path o)
  trusted_sayable path None = tt
  trusted_sayable path (Some node) =
      by (is_dir node) (is_open_way (way_to f path)) (map (λ (p : ProcName × Name). p.0) (trusted_with accounts f (way_to f path)))
      (chosen_sayable (is_trusted accounts (way_to f path) f) (running_in f) all_run)
    where
      by : (a b : Bool) (names : List ProcName) → AreSayable names → IsSayable (if a then Some [] else (if b then None else Some names))
      by true b names h = tt
      by false true names h = tt
      by false false names h = h

-- ---- the law

-- a claim is met exactly if it names the processes that are trusted
pub claims_are_met : ClaimsAreMet
claims_are_met script n text c e =
    let f = state_before (Some n) script in
    let named = claim_named n text c e in
    let reached : IsReached script.accounts f = (calls_before (Some n) script.calls, refl) in
    let decides = bytes_eq-Decides (trusted_text script.accounts f c.path) c.wanted in
    record {
      names = named.names;
      wanted = named.text;
      met = (
        λ h. same_answer named.names (trusted_names script.accounts f c.path) named.right
            (trusted_sayable script.accounts f reached c.path (get f.files c.path)) (sym named.text ∙ sym (decides.0 h)),
        λ h. decides.1 (ap answer_text h ∙ sym named.text),
      );
    }
