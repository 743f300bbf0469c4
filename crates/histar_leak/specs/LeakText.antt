-- How each process that is trusted with a file reveals what is in it, and to whom; how each login reads it; and how each
-- changer changes what is at a path: the text of a flat state.
use Rattle.std.specs.Prelude.{ℕ, Bool, false, not, ◌&&◌, ◌||◌, List, [], ◌∷◌, ◌++◌, Option, None, Some, codes}
use Rattle.std.specs.Prelude.{if◌then◌else◌}
use Rattle.std.specs.List.{flat_map}
use Rattle.histar_flat.specs.declared.calls.User.{User}
use Rattle.histar_flat.specs.declared.calls.UnixCall.{UnixCall}
use Rattle.histar_flat.specs.declared.calls.UnixCall.TheVariants.{Login, Read}
use Rattle.histar_flat.specs.Words.{Name, Path, ProcName}
use Rattle.histar_flat.specs.Accounts.{Accounts}
use Rattle.histar_flat.specs.Files.{get}
use Rattle.histar_flat.specs.Classes.{is_free, sees}
use Rattle.histar_flat.specs.FlatState.{Flat, Node, is_dir, is_dir_at, is_some_and, is_there}
use Rattle.histar_flat.specs.FlatCalls.{running}
use Rattle.histar_rights.specs.Running.{Named, running_in}
use Rattle.histar_rights.specs.Table.{access_line_text, line_of}
use Rattle.histar_secrecy.specs.Ways.{reaches, way_to}
use Rattle.histar_secrecy.specs.Logins.{logged_in}
use Rattle.histar_secrecy.specs.Leaks.{Line, asking}
use Rattle.histar_secrecy.specs.Roles.{is_outsider, is_trusted}
use Rattle.histar_secrecy.specs.Changers.{is_changer, may_change}
use Rattle.histar_trust.specs.TrustText.{is_open_way, running_where}
use Rattle.histar_leak.specs.LeakLines.{by_first, paragraph, some_text, who_text}
use Rattle.histar_leak.specs.ChangeCalls.{change_call}

-- the line of the call, if there is one
abbrev pub change_lines : ProcName → Option UnixCall → List Line
change_lines me None = []
change_lines me (Some call) = (me, call) ∷ []

-- the process logs in as the user
abbrev pub login_line : ProcName → User → Line
login_line me user = (me, Login user.name user.password)

module _ (accounts : Accounts) (f : Flat) (path : Path) where
  -- ---- the readers of a file

  -- the process of this name is an outsider of the file
  abbrev pub is_outside : ProcName → Bool
  is_outside me = is_outsider accounts (way_to f path) f me

  -- the process of this name knows each job of the other
  abbrev pub knows_all_of : ProcName → ProcName → Bool
  knows_all_of me other = is_some_and (running f me) (λ p. is_some_and (running f other) (λ q. sees p q))

  -- the process of this name is in no job
  abbrev pub is_in_no_job : ProcName → Bool
  is_in_no_job me = is_some_and (running f me) is_free

  -- the running outsiders that know each job of the process
  abbrev pub listeners : ProcName → List (ProcName × Name)
  listeners me = running_where accounts f (λ other. is_outside other && knows_all_of other me)

  -- A trusted process reads the file; the first listener asks if it runs; it exits with 1; the listener asks again.
  abbrev pub trusted_text : Named → List ℕ
  trusted_text c =
      if is_trusted accounts (way_to f path) f c.0 then
      paragraph accounts f
      (codes "trusted " ++ who_text (c.0, c.1.user) ++ codes " tells " ++ some_text (listeners c.0))
      (by_first (listeners c.0) (λ other. asking c.0 other path 1))
      else []

  -- the running outsiders in no job
  abbrev pub free_outsiders : List (ProcName × Name)
  free_outsiders = running_where accounts f (λ other. is_outside other && is_in_no_job other)

  -- The first of them logs in as a user who reaches the file, and reads it.
  abbrev pub login_text : User → List ℕ
  login_text user =
      if reaches accounts f (logged_in user.name) path then
      paragraph accounts f (codes "login " ++ user.name ++ codes " by " ++ some_text free_outsiders)
      (by_first free_outsiders (λ me. login_line me user ∷ (me, Read path) ∷ []))
      else []

  -- `everyone` if every process reaches the file, or else a paragraph for each trusted process and each login
  abbrev pub readers_part : List ℕ
  readers_part =
      if is_open_way (way_to f path) then codes "\n# everyone\n" else
      flat_map trusted_text (running_in f) ++ flat_map login_text accounts.users

  -- nothing for a directory
  abbrev pub readers_of : Node → List ℕ
  readers_of node = if is_dir node then [] else readers_part

  -- ---- the changers of what is at the path

  -- A changer makes the call by which it changes what is at the path.
  abbrev pub changer_text : Named → List ℕ
  changer_text c =
      if is_changer accounts f path c.0 then
      paragraph accounts f (codes "changer " ++ who_text (c.0, c.1.user))
      (change_lines c.0 (change_call accounts f path c.1))
      else []

  -- the running processes in no job that are no changers
  abbrev pub others_in_no_job : List (ProcName × Name)
  others_in_no_job = running_where accounts f (λ other. not (is_changer accounts f path other) && is_in_no_job other)

  -- The first of these processes logs in as a user who may change what is at the path, and makes that user's call.
  abbrev pub login_by : List (ProcName × Name) → User → List ℕ
  login_by [] user = []
  login_by (p ∷ more) user =
      if may_change accounts f (logged_in user.name) path then
      paragraph accounts f (codes "changer-login " ++ user.name ++ codes " by " ++ some_text (p ∷ more))
      (login_line p.0 user ∷ change_lines p.0 (change_call accounts f path (logged_in user.name)))
      else []

  -- the paragraph of a user as whom those who are no changers could log in
  abbrev pub changer_login_text : User → List ℕ
  changer_login_text user = login_by others_in_no_job user

  -- a file is above the path, so that nothing can be there
  abbrev pub is_below_file : Path → Bool
  is_below_file [] = false
  is_below_file (n ∷ d) = (is_there f d && not (is_dir_at f d)) || is_below_file d

  -- a paragraph for each changer and each login of one
  abbrev pub changers_part : List ℕ
  changers_part =
      if is_below_file path then [] else
      flat_map changer_text (running_in f) ++ flat_map changer_login_text accounts.users

  -- ---- the whole

  -- what is at the path, and its readers
  abbrev pub found_part : Option Node → List ℕ
  found_part None = codes "no entry\n"
  found_part (Some node) = access_line_text (line_of accounts f [] (path, node)) ++ readers_of node

  -- what is at the path as a comment, then the paragraphs of its readers, and then those of its changers
  abbrev pub leak_text : List ℕ
  leak_text = codes "# " ++ found_part (get f.files path) ++ changers_part
