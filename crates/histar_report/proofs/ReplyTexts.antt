-- A reply is one line, where the names and the files of the flat state are.
use Rattle.std.proofs.Common.{◌≡◌, ℕ, Bool, true, false, not, cond, List, [], ◌∷◌, ◌++◌, Option, None, Some}
use Rattle.std.proofs.Common.{refl, subst}
use Rattle.std.specs.Prelude.{codes}
use Rattle.std.specs.List.{AllByRecursion, cons_option, filter_map, flat_map, list_all}
use Rattle.std.proofs.lemmas.Bool.{and_parts}
use Rattle.histar_base.specs.Paths.{same_path}
use Rattle.histar_flat.specs.declared.calls.UnixCall.{UnixCall}
use Rattle.histar_flat.specs.declared.replies.Errno.{Errno}
use Rattle.histar_flat.specs.declared.replies.Errno.TheVariants.{ENOENT, ENOTDIR, EISDIR, EEXIST, EACCES, EPERM, ENOTEMPTY, EBUSY, ENOSPC, EFBIG}
use Rattle.histar_flat.specs.declared.replies.Errno.TheVariants.{ESRCH, EAGAIN, EAUTH}
use Rattle.histar_flat.specs.Words.{Path, ProcName}
use Rattle.histar_flat.specs.Accounts.{Accounts}
use Rattle.histar_flat.specs.Files.{get}
use Rattle.histar_flat.specs.Classes.{Class, Process, class_mode, class_owner, is_free}
use Rattle.histar_flat.specs.Classes.Class.{Private, Readable, Open, Scratch, Grouped}
use Rattle.histar_flat.specs.FlatState.{Flat, Node, entry_in, is_dir}
use Rattle.histar_flat.specs.Effects.{ReplyForm, life_reply, next_child, reply_with, stat_reply}
use Rattle.histar_flat.specs.Effects.ReplyForm.{Done, Bytes, Listing, Attributes, StatusOf, Identity, NewChild}
use Rattle.histar_flat.specs.CallRules.{path_of, rule}
use Rattle.histar_flat.specs.FlatCalls.{answer, refused, reply_by, reply_or, reply_to, running}
use Rattle.histar_flat.specs.Texts.{confined_text, entry_text, errno_text, file_mode_text, owner_text, reply_text}
use Rattle.histar_flat.proofs.Changes.{runs_is_there}
use Rattle.histar_flat.proofs.SplitLemmas.{lacks}
use Rattle.histar_report.proofs.OneLines.{IsOneLine, joined, number_lined}
use Rattle.histar_report.proofs.StateTexts.{IsLined, IsLinedClass, IsLinedEntry, IsLinedNode, IsLinedPath, IsLinedUser, found_lined, held_lined}
use Rattle.histar_report.proofs.StateTexts.{process_text_lined}

-- the name of an errno
errno_lined : (e : Errno) → IsOneLine (errno_text e)
errno_lined ENOENT = refl
errno_lined ENOTDIR = refl
errno_lined EISDIR = refl
errno_lined EEXIST = refl
errno_lined EACCES = refl
errno_lined EPERM = refl
errno_lined ENOTEMPTY = refl
errno_lined EBUSY = refl
errno_lined ENOSPC = refl
errno_lined EFBIG = refl
errno_lined ESRCH = refl
errno_lined EAGAIN = refl
errno_lined EAUTH = refl

-- the entries of a directory
listing_lined : (d : Path) (es : List (Path × Node)) → AllByRecursion IsLinedEntry es
    → IsOneLine (flat_map entry_text (filter_map (entry_in d) es))
listing_lined d [] all = refl
listing_lined d (e ∷ es) all = by e.0 all.0.0 (listing_lined d es all.1)
  where
    rest : List (List ℕ × Bool)
    rest = filter_map (entry_in d) es

    slashed : (t : Bool) → IsOneLine (let l : List ℕ = cond t (codes "/") [] in l)
    slashed true = refl
    slashed false = refl

    here : (n : List ℕ) (t : Bool) → lacks 10 n ≡ true → IsOneLine (flat_map entry_text rest)
        → IsOneLine (flat_map entry_text (cons_option (cond t (Some (n, is_dir e.1)) None) rest))
    here n true one later =
        joined (entry_text (n, is_dir e.1)) (flat_map entry_text rest)
        (joined (codes " ") (n ++ cond (is_dir e.1) (codes "/") []) refl
        (joined n (cond (is_dir e.1) (codes "/") []) one (slashed (is_dir e.1)))) later
    here n false one later = later

    by : (path : Path) → IsLinedPath path → IsOneLine (flat_map entry_text rest)
        → IsOneLine (flat_map entry_text (cons_option (elim path [
          | [] ↦ None
          | n ∷ above ↦ cond (same_path d above) (Some (n, is_dir e.1)) None
        ]) rest))
    by [] one later = later
    by (n ∷ above) one later = here n (same_path d above) (and_parts (lacks 10 n) (list_all (lacks 10) above) one).0 later

-- what is at a path
stat_lined : (o : Option Node) → IsLinedNode o → IsOneLine (reply_text (stat_reply o))
stat_lined None lined = refl
stat_lined (Some node) lined =
    by (is_dir node) (owner_text (class_owner node.class)) (file_mode_text (class_mode node.class)) (owner node.class lined.0)
  where
    by : (t : Bool) (owned mode : List ℕ) → IsOneLine (owned ++ codes " " ++ mode)
        → IsOneLine ((let l : List ℕ = cond t (codes "dir ") (codes "file ") in l) ++ owned ++ codes " " ++ mode)
    by true owned mode one = one
    by false owned mode one = one

    owner : (class : Class) → IsLinedClass class → IsOneLine (owner_text (class_owner class) ++ codes " " ++ file_mode_text (class_mode class))
    owner (Private name) one = joined (name ++ codes " ") (codes "private") (joined name (codes " ") one refl) refl
    owner (Readable name) one = joined (name ++ codes " ") (codes "readable") (joined name (codes " ") one refl) refl
    owner Open one = refl
    owner (Scratch name jobs) one = joined (name ++ codes " ") (codes "scratch") (joined name (codes " ") one refl) refl
    owner (Grouped group) one = joined (codes "- group:") group refl one

-- whether a process runs
life_lined : (o : Option Process) → IsOneLine (reply_text (life_reply o))
life_lined None = refl
life_lined (Some p) = by p.exited
  where
    by : (e : Option ℕ) → IsOneLine (reply_text (life_reply (Some (record p { exited = e }))))
    by None = refl
    by (Some n) = number_lined n

-- whose a process is
user_lined : (name : List ℕ) (confined : Bool) → IsOneLine name → IsOneLine (codes "ok " ++ name ++ confined_text confined)
user_lined name confined one = joined name (confined_text confined) one (by confined)
  where
    by : (t : Bool) → IsOneLine (confined_text t)
    by true = refl
    by false = refl

-- the answer to a call
answer_lined : (f : Flat) (me : ProcName) (p : Process) (q : Path) (form : ReplyForm) → IsLined f → IsOneLine p.user
    → IsOneLine (reply_text (reply_with f me p q form))
answer_lined f me p q Done lined user = refl
answer_lined f me p q Bytes lined user = held_lined f lined q
answer_lined f me p q Listing lined user = listing_lined q f.files.entries lined.files
answer_lined f me p q Attributes lined user = stat_lined (get f.files q) (found_lined q f.files.entries lined.files)
answer_lined f me p q (StatusOf name) lined user = life_lined (f.processes name)
answer_lined f me p q Identity lined user = user_lined p.user (not (is_free p)) user
answer_lined f me p q NewChild lined user = process_text_lined (next_child me p)

-- the reply to a call
pub reply_lined : (accounts : Accounts) (f : Flat) (me : ProcName) (call : UnixCall) → IsLined f
    → IsOneLine (reply_text (reply_to accounts f me call))
reply_lined accounts f me call lined = by (running f me) refl
  where
    either : (p : Process) (e : Option Errno) → IsOneLine (reply_text (answer f me p call))
        → IsOneLine (reply_text (reply_or e (answer f me p call)))
    either p None one = one
    either p (Some e) one = errno_lined e

    by : (o : Option Process) → running f me ≡ o → IsOneLine (reply_text (reply_by accounts f me o call))
    by None is = refl
    by (Some p) is =
        either p (refused accounts f me p call)
        (answer_lined f me p (path_of call) (rule call).answer lined
        (subst IsLinedUser (runs_is_there (f.processes me) p is) (lined.users me)))
