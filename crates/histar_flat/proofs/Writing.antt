-- What is written is read.
use Rattle.std.specs.Prelude.{◌≡◌, Bool, true, false, not, List, ℕ, length, nat_le, Option, Some, None, option_map, refl}
use Rattle.std.proofs.Common.{ap, sym, ◌∙◌, subst, inl, inr}
use Rattle.std.proofs.lemmas.Bool.{true≢false, not-true}
use Rattle.histar_base.specs.Refusals.{◌orelse◌, unless}
use Rattle.histar_flat.specs.declared.calls.UnixCall.TheVariants.{Read, Write}
use Rattle.histar_flat.specs.declared.replies.Errno.{Errno}
use Rattle.histar_flat.specs.declared.replies.Errno.TheVariants.{ENOENT, EISDIR, EACCES, EFBIG}
use Rattle.histar_flat.specs.declared.replies.Reply.TheVariants.{Done, Data}
use Rattle.histar_flat.specs.Words.{Path, ProcName}
use Rattle.histar_flat.specs.Accounts.{Accounts}
use Rattle.histar_flat.specs.Files.{get}
use Rattle.histar_flat.specs.Classes.{Process}
use Rattle.histar_flat.specs.FlatState.{Flat, Node, is_some_and, is_dir, is_there, is_file_at, writes, bytes_of, class_of, walk, with_bytes}
use Rattle.histar_flat.specs.FlatCalls.{most_bytes, is_below_root, refused, answer, reply_or, flat_or, running, reply_by, flat_by, reply_to}
use Rattle.histar_flat.specs.FlatCalls.{flat_after}
use Rattle.histar_flat.proofs.CommonNeeds.{no_file}
use Rattle.histar_flat.proofs.Warrants.{writes_and_reads}
use Rattle.histar_flat.proofs.Alike.{ShowAlike, file_reached_alike, reads_alike}
use Rattle.histar_flat.proofs.Entries.{shown}
use Rattle.histar_flat.proofs.FileLemmas.{same_path_found, get_other, get_new}
use Rattle.histar_flat.proofs.PrivateFiles.{written_is_writable}
use Rattle.histar_flat.proofs.Refusals.{passes_first, passes_later, passed}

-- new bytes in a file change nothing else that is shown
bytes_show_nothing : (f : Flat) (q : Path) (bytes : List ℕ) → is_file_at f q ≡ true → ShowAlike (with_bytes f q bytes) f
bytes_show_nothing f q bytes h r = elim (same_path_found r q) [
  | inl e ↦
      subst (λ s. option_map shown (get (with_bytes f q bytes).files s) ≡ option_map shown (get f.files s)) (sym e.1)
      (ap (option_map shown) (get_new f.files q _) ∙ by (get f.files q) h)
  | inr n ↦ ap (option_map shown) (get_other f.files q _ r n.1)
]
  where
    by : (o : Option Node) → is_some_and o (λ n. not (is_dir n)) ≡ true → Some (class_of o, false) ≡ option_map shown o
    by None i = absurd (true≢false (sym i))
    by (Some n) i = ap (λ (b : Bool). Some (n.class, b)) (sym (not-true (is_dir n) i))

module _ (accounts : Accounts) (f : Flat) (me : ProcName) (q : Path) (bytes : List ℕ) where
  reply_after : (p : Process) → refused accounts f me p (Write q bytes) ≡ None
      → reply_by accounts (with_bytes f q bytes) me (Some p) (Read q) ≡ Data bytes
  reply_after p h =
      let short = unless (nat_le (length bytes) most_bytes) EFBIG in
      let reached = passes_first (no_file accounts f p q) (unless (writes accounts f p q) EACCES orelse short) h in
      let is_file = unless (is_file_at f q) EISDIR in
      let found = passes_later (unless (is_below_root q) EISDIR) (walk accounts f p q orelse unless (is_there f q) ENOENT orelse is_file) reached in
      let file =
      passed (is_file_at f q) EISDIR (passes_later (unless (is_there f q) ENOENT) is_file
      (passes_later (walk accounts f p q) (unless (is_there f q) ENOENT orelse is_file) found)) in
      let alike = bytes_show_nothing f q bytes file in
      let readable =
      reads_alike accounts (with_bytes f q bytes) f alike p q
      ∙ writes_and_reads accounts f p q (written_is_writable accounts f me p q bytes h) in
      let none = file_reached_alike accounts (with_bytes f q bytes) f alike p q ∙ reached in
      ap (λ e. reply_or e (Data (bytes_of (get (with_bytes f q bytes).files q)))) (λ i. none i orelse unless (readable i) EACCES)
      ∙ ap (λ o. Data (bytes_of o)) (get_new f.files q _)

  -- What a process has written it reads back.
  pub written_is_read : reply_to accounts f me (Write q bytes) ≡ Done
      → reply_to accounts (flat_after accounts f me (Write q bytes)) me (Read q) ≡ Data bytes
  written_is_read h = by (running f me) refl h
    where
      first : (p : Process) (refusal : Option Errno) → running f me ≡ Some p
          → refused accounts f me p (Write q bytes) ≡ refusal → reply_or refusal (answer f me p (Write q bytes)) ≡ Done
          → reply_to accounts (flat_or refusal f (with_bytes f q bytes)) me (Read q) ≡ Data bytes
      first p None runs e i = ap (λ r. reply_by accounts (with_bytes f q bytes) me r (Read q)) runs ∙ reply_after p e
      first p (Some d) runs e i = absurd (cc)

      by : (r : Option Process) → running f me ≡ r → reply_by accounts f me r (Write q bytes) ≡ Done
          → reply_to accounts (flat_by accounts f me r (Write q bytes)) me (Read q) ≡ Data bytes
      by None runs i = absurd (cc)
      by (Some p) runs i = first p (refused accounts f me p (Write q bytes)) runs refl i
