-- What lies below a directory that a process may not read changes no reply to the process.
use Rattle.std.specs.Prelude.{◌≡◌, Bool, true, false, not, ◌||◌, ◌&&◌, cond, List, [], ◌∷◌, Option, Some, None, option_map, refl}
use Rattle.std.specs.List.{filter_map, cons_option}
use Rattle.std.proofs.Common.{ap, sym, ◌∙◌, inl, inr}
use Rattle.std.proofs.lemmas.Bool.{true≢false, cases_Bool}
use Rattle.std.proofs.lemmas.Option.{none-some}
use Rattle.std.specs.FinMap.Entries.{where_key}
use Rattle.std.proofs.Math.Bool.{and-true}
use Rattle.histar_base.specs.Refusals.{◌orelse◌, unless}
use Rattle.histar_flat.specs.declared.replies.Errno.{Errno}
use Rattle.histar_flat.specs.declared.replies.Errno.TheVariants.{ENOENT, ENOTDIR, EACCES}
use Rattle.histar_flat.specs.CallRules.{path_of}
use Rattle.histar_flat.specs.Words.{Name, Path}
use Rattle.histar_base.specs.Paths.{path_cmp, same, same_path}
use Rattle.histar_flat.specs.PathOrder.{under_path}
use Rattle.histar_flat.specs.Accounts.{Accounts}
use Rattle.histar_flat.specs.Files.{get, keep}
use Rattle.histar_flat.specs.Classes.{Process, may_read}
use Rattle.histar_flat.specs.FlatState.{Flat, Node, is_some_and, is_dir, is_there, is_dir_at, reads, bytes_of, entry_in, entries_in, into, walk}
use Rattle.histar_flat.specs.FlatCalls.{life_reply, if_running, reply_by}
use Rattle.histar_flat.specs.FileLaws.{is_inside, UnreadDirectoriesAreHidden}
use Rattle.histar_flat.proofs.Entries.{shown}
use Rattle.histar_flat.proofs.LooksAlike.{LooksAlike, found_alike, later_alike, reply_alike}
use Rattle.histar_flat.proofs.FileLemmas.{same_path_found, same_lists, get-keep}
use Rattle.histar_flat.proofs.Under.{above_is_not_under}

-- ---- what lies inside a directory

no_test : (b : Bool) → (b && not b) ≡ false
no_test true = refl
no_test false = refl

-- `/` lies in nothing
root_is_outside : (d : Path) → is_inside d [] ≡ false
root_is_outside d = no_test (same_path d [])

-- an entry lies inside a directory if its own directory is that one, or lies below it
inside_child : (d : Path) (n : Name) (e : Path) → is_inside d (n ∷ e) ≡ under_path d e
inside_child d n e = elim (same_path_found d (n ∷ e)) [
  | inl t ↦ ap (λ b. (b || under_path d e) && not b) t.0 ∙ sym (ap (λ (x : Path). under_path x e) t.1 ∙ above_is_not_under same same_path_found e n)
  | inr t ↦ ap (λ b. (b || under_path d e) && not b) t.0 ∙ and-true (under_path d e)
]

-- what is not below a directory is outside
not_under_is_outside : (d e : Path) → under_path d e ≡ false → is_inside d e ≡ false
not_under_is_outside d e u = ap (λ b. b && not (same_path d e)) u

-- ---- the entries of a directory, by what is in it

-- the path is an entry of the directory
abbrev is_entry_of : Path → Path → Bool
is_entry_of e [] = false
is_entry_of e (m ∷ above) = same_path e above

-- other paths don't change the entries
entries_kept : (e : Path) (es : List (Path × Node)) → filter_map (entry_in e) (where_key path_cmp (is_entry_of e) es) ≡ filter_map (entry_in e) es
entries_kept e [] = refl
entries_kept e (x ∷ es) = step x.0 x.1 (entries_kept e es)
  where
    later : List (Path × Node)
    later = where_key path_cmp (is_entry_of e) es

    step : (q : Path) (there : Node) → filter_map (entry_in e) later ≡ filter_map (entry_in e) es
        → filter_map (entry_in e) (cond (is_entry_of e q) ((q, there) ∷ later) later) ≡ filter_map (entry_in e) ((q, there) ∷ es)
    step [] there rest = rest
    step (m ∷ above) there rest = by (same_path e above) refl
      where
        by : (b : Bool) → same_path e above ≡ b
            → filter_map (entry_in e) (cond (same_path e above) ((m ∷ above, there) ∷ later) later)
            ≡ filter_map (entry_in e) ((m ∷ above, there) ∷ es)
        by true t =
            ap (λ b. filter_map (entry_in e) (cond b ((m ∷ above, there) ∷ later) later)) t
            ∙ ap (cons_option (cond (same_path e above) (Some (m, is_dir there)) None)) rest
        by false t =
            ap (λ b. filter_map (entry_in e) (cond b ((m ∷ above, there) ∷ later) later)) t ∙ rest
            ∙ sym (ap (λ b. cons_option (cond b (Some (m, is_dir there)) None) (filter_map (entry_in e) es)) t)

module _ (accounts : Accounts) (f g : Flat) (d : Path) (processes : f.processes ≡ g.processes)
    (alike : (q : Path) → is_inside d q ≡ false → get f.files q ≡ get g.files q) (p : Process)
    (unread : reads accounts f p d ≡ false) where
  -- a directory that is not below has the same entries in both states
  entries_alike : (e : Path) → under_path d e ≡ false → entries_in f e ≡ entries_in g e
  entries_alike e out =
      sym (entries_kept e f.files.entries)
      ∙ ap (filter_map (entry_in e)) (same_lists (keep f.files (is_entry_of e)) (keep g.files (is_entry_of e))
      (λ q. get-keep f.files (is_entry_of e) q ∙ one q ∙ sym (get-keep g.files (is_entry_of e) q)))
      ∙ entries_kept e g.files.entries
    where
      one : (q : Path) → cond (is_entry_of e q) (get f.files q) None ≡ cond (is_entry_of e q) (get g.files q) None
      one [] = refl
      one (m ∷ above) = elim (same_path_found e above) [
        | inl t ↦
            ap (λ (o : Option Node). cond (same_path e above) o None)
            (alike (m ∷ above) (inside_child d m above ∙ ap (under_path d) (sym t.1) ∙ out))
        | inr t ↦ ap (λ b. cond b (get f.files (m ∷ above)) None) t.0 ∙ sym (ap (λ b. cond b (get g.files (m ∷ above)) None) t.0)
      ]

  -- what is outside is the same in both states
  root_alike : get f.files [] ≡ get g.files []
  root_alike = alike [] (root_is_outside d)

  child_alike : (n : Name) (e : Path) → under_path d e ≡ false → get f.files (n ∷ e) ≡ get g.files (n ∷ e)
  child_alike n e out = alike (n ∷ e) (inside_child d n e ∙ out)

  above_alike : (e : Path) → under_path d e ≡ false → get f.files e ≡ get g.files e
  above_alike e out = alike e (not_under_is_outside d e out)

  -- ---- the way

  last_refuses : (a b c : Option Errno) (may : Bool) → may ≡ false → (errno : Errno) × ((a orelse b orelse c orelse unless may EACCES) ≡ Some errno)
  last_refuses (Some x) b c may is = (x, refl)
  last_refuses None (Some x) c may is = (x, refl)
  last_refuses None None (Some x) may is = (x, refl)
  last_refuses None None None may is = (EACCES, ap (λ b. unless b EACCES) is)

  -- the way into the directory, or into what lies below it, is refused
  way_stops : (e : Path) → under_path d e ≡ true → (errno : Errno) × (into accounts f p e ≡ Some errno)
  way_stops [] u = elim (same_path_found d []) [
    | inl t ↦ (EACCES, ap (λ b. unless b EACCES) (ap (reads accounts f p) (sym t.1) ∙ unread))
    | inr t ↦ absurd (true≢false (sym u ∙ t.0))
  ]
  way_stops (n ∷ e) u = elim (same_path_found d (n ∷ e)) [
    | inl t ↦
        last_refuses (into accounts f p e) (unless (is_there f (n ∷ e)) ENOENT) (unless (is_dir_at f (n ∷ e)) ENOTDIR)
        (reads accounts f p (n ∷ e)) (ap (reads accounts f p) (sym t.1) ∙ unread)
    | inr t ↦
        let above = way_stops e (sym (ap (λ b. b || under_path d e) t.0) ∙ u) in (
          above.0,
          ap (λ (o : Option Errno).
              o orelse unless (is_there f (n ∷ e)) ENOENT orelse unless (is_dir_at f (n ∷ e)) ENOTDIR
              orelse unless (reads accounts f p (n ∷ e)) EACCES) above.1,
        )
  ]

  -- a way without refusals leads to a directory that is not below
  open_is_outside : (e : Path) → into accounts f p e ≡ None → under_path d e ≡ false
  open_is_outside e open_so_far = elim (cases_Bool (under_path d e)) [
    | inl u ↦ let stops = way_stops e u in absurd (none-some stops.0 (sym open_so_far ∙ stops.1))
    | inr u ↦ u
  ]

  -- the tests of one step of a way
  abbrev way_tests : Option Node → Option Errno
  way_tests o =
      unless (is_some_and o (λ n. true)) ENOENT orelse unless (is_some_and o is_dir) ENOTDIR
      orelse unless (is_some_and o (λ n. may_read accounts p n.class)) EACCES

  -- each way has the same refusals in both states
  way_alike : (e : Path) → into accounts f p e ≡ into accounts g p e
  way_alike [] = ap (λ (o : Option Node). unless (is_some_and o (λ n. may_read accounts p n.class)) EACCES) root_alike
  way_alike (n ∷ e) =
      later_alike (into accounts f p e) (into accounts g p e) (way_tests (get f.files (n ∷ e)))
      (way_tests (get g.files (n ∷ e))) (way_alike e)
      (λ open_so_far. ap way_tests (child_alike n e (open_is_outside e open_so_far)))

  -- a path that is reached and may be read is outside
  readable_is_outside : (q : Path) → reads accounts f p q ≡ true → walk accounts f p q ≡ None → under_path d q ≡ false
  readable_is_outside q may w = elim (same_path_found d q) [
    | inl t ↦ absurd (true≢false (sym may ∙ ap (reads accounts f p) (sym t.1) ∙ unread))
    | inr t ↦ by q t.0 w
  ]
    where
      by : (r : Path) → same_path d r ≡ false → walk accounts f p r ≡ None → under_path d r ≡ false
      by [] other w = other
      by (n ∷ e) other w = λ i. other i || open_is_outside e w i

  -- the two states look alike to the process
  both_look_alike : (q : Path) → LooksAlike true accounts f g p q
  both_look_alike [] = record {
    way = refl;
    here = λ w. ap (option_map shown) root_alike;
    above = λ below w. absurd (true≢false (sym below));
    beside = λ name below w. absurd (true≢false (sym below));
    entries_above = λ below w. absurd (true≢false (sym below));
    entries = λ wide w may. entries_alike [] (readable_is_outside [] may w);
    bytes = λ w may. ap bytes_of root_alike;
    found = λ wide. found_alike f g p processes;
    life = λ wide name there i. life_reply (processes i name);
  }
  both_look_alike (n ∷ e) = record {
    way = way_alike e;
    here = λ w. ap (option_map shown) (child_alike n e (open_is_outside e w));
    above = λ below w. ap (option_map shown) (above_alike e (open_is_outside e w));
    beside = λ name below w. ap (option_map shown) (child_alike name e (open_is_outside e w));
    entries_above = λ below w. entries_alike e (open_is_outside e w);
    entries = λ wide w may. entries_alike (n ∷ e) (readable_is_outside (n ∷ e) may w);
    bytes = λ w may. ap bytes_of (child_alike n e (open_is_outside e w));
    found = λ wide. found_alike f g p processes;
    life = λ wide name there i. life_reply (processes i name);
  }

-- each call of a process has the same reply, whatever lies below a directory that the process may not read
pub unread_directories_are_hidden : UnreadDirectoriesAreHidden
unread_directories_are_hidden accounts f g d processes alike me p call runs unread =
    ap (λ (o : Option Process). reply_by accounts f me o call) runs
    ∙ reply_alike accounts f g me p call (both_look_alike accounts f g d processes alike p unread (path_of call))
    ∙ sym (ap (λ (o : Option Process). reply_by accounts g me o call) (sym (λ i. if_running (processes i me)) ∙ runs))
