-- What a call finds apart from bytes is the same in two states that are shown alike, for any process, also for a reader.
use Rattle.std.specs.Prelude.{◌≡◌, Bool, true, false, not, ◌&&◌, ◌∷◌, [], List, length, nat_lt, ◌==◌, refl}
use Rattle.std.proofs.Common.{ap, sym}
use Rattle.std.proofs.lemmas.Bool.{true≢false, and_parts}
use Rattle.histar_base.specs.Refusals.{◌orelse◌, unless}
use Rattle.histar_flat.specs.declared.replies.Errno.{Errno}
use Rattle.histar_flat.specs.declared.replies.Errno.TheVariants.{EACCES, ENOENT, ENOTDIR}
use Rattle.histar_flat.specs.Words.{Path, ProcName}
use Rattle.histar_flat.specs.PathOrder.{parent}
use Rattle.histar_flat.specs.Accounts.{Accounts}
use Rattle.histar_flat.specs.Files.{get}
use Rattle.histar_flat.specs.Classes.{Process, may_write}
use Rattle.histar_flat.specs.FlatState.{Entry, Flat, into, is_some_and, walk}
use Rattle.histar_flat.specs.Needs.{Test, Need, passes, unmet, most_entries}
use Rattle.histar_flat.specs.Needs.Test.{Exists, IsFile, IsDirectory, Absent, AbsentBeside, MayRead, MayWrite, MayWriteAbove, HasRoomAbove, IsEmpty}
use Rattle.histar_flat.specs.Needs.Test.{Fits}
use Rattle.histar_flat.specs.Needs.Need.{◌then◌, ◌or◌, Walk, Found}
use Rattle.histar_flat.proofs.Alike.{ShowAlike, reads_alike}
use Rattle.histar_flat.proofs.Entries.{same_entries_shown}
use Rattle.histar_flat.proofs.LooksAlike.{found_alike, test_alike}

-- the need tests no bytes
abbrev pub is_blind : Need → Bool
is_blind (a then b) = is_blind a && is_blind b
is_blind (Fits new or e) = false
is_blind _ = true

module _ (accounts : Accounts) (f g : Flat) (alike : ShowAlike f g) (p : Process) where
  into_alike : (d : Path) → into accounts f p d ≡ into accounts g p d
  into_alike [] = λ i. unless (reads_alike accounts f g alike p [] i) EACCES
  into_alike (n ∷ d) = λ i.
      into_alike d i
      orelse unless (test_alike (λ c. true) (get f.files (n ∷ d)) (get g.files (n ∷ d)) (alike (n ∷ d)) i) ENOENT
      orelse unless (test_alike (λ c. c.1) (get f.files (n ∷ d)) (get g.files (n ∷ d)) (alike (n ∷ d)) i) ENOTDIR
      orelse unless (reads_alike accounts f g alike p (n ∷ d) i) EACCES

  pub walk_alike : (q : Path) → walk accounts f p q ≡ walk accounts g p q
  walk_alike [] = refl
  walk_alike (n ∷ d) = into_alike d

  pub writes_alike : (r : Path) → is_some_and (get f.files r) (λ n. may_write accounts p n.class)
      ≡ is_some_and (get g.files r) (λ n. may_write accounts p n.class)
  writes_alike r = test_alike (λ s. may_write accounts p s.0) (get f.files r) (get g.files r) (alike r)

  module _ (processes : f.processes ≡ g.processes) (me : ProcName) (q : Path) where
    test_shown : (test : Test) (e : Errno) → is_blind (test or e) ≡ true → passes accounts f me p q test ≡ passes accounts g me p q test
    test_shown Exists e h = test_alike (λ s. true) (get f.files q) (get g.files q) (alike q)
    test_shown IsFile e h = test_alike (λ s. not s.1) (get f.files q) (get g.files q) (alike q)
    test_shown IsDirectory e h = test_alike (λ s. s.1) (get f.files q) (get g.files q) (alike q)
    test_shown Absent e h = ap not (test_alike (λ s. true) (get f.files q) (get g.files q) (alike q))
    test_shown (AbsentBeside name) e h =
        ap not (test_alike (λ s. true) (get f.files (name ∷ parent q)) (get g.files (name ∷ parent q)) (alike (name ∷ parent q)))
    test_shown MayRead e h = reads_alike accounts f g alike p q
    test_shown MayWrite e h = writes_alike q
    test_shown MayWriteAbove e h = writes_alike (parent q)
    test_shown HasRoomAbove e h = ap (λ (l : List Entry). nat_lt (length l) most_entries) (same_entries_shown f g (parent q) alike)
    test_shown IsEmpty e h = ap (λ (l : List Entry). length l == 0) (same_entries_shown f g q alike)
    test_shown (Fits new) e h = absurd (true≢false (sym h))
    test_shown _ e h = refl

    -- a need that tests no bytes is met alike
    pub unmet_shown : (need : Need) → is_blind need ≡ true → unmet accounts f me p q need ≡ unmet accounts g me p q need
    unmet_shown (a then b) h =
        let parts = and_parts (is_blind a) (is_blind b) h in λ i. unmet_shown a parts.0 i orelse unmet_shown b parts.1 i
    unmet_shown (test or e) h = ap (λ b. unless b e) (test_shown test e h)
    unmet_shown Walk h = walk_alike q
    unmet_shown (Found name) h = found_alike f g p processes name
    unmet_shown _ h = refl
