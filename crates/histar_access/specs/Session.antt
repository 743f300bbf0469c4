-- The table of a script: who may do what before a line, or after all.
use Rattle.std.specs.Prelude.{◌≡◌, ℕ, ◌⊎◌, List, Option, Result, Ok, Err, MatchResult}
use Rattle.std.specs.Global.{Vec}
use Rattle.std.specs.Io.KnownBytes.{Appends, Keeps}
use Rattle.histar_io.specs.Writing.{AppendsFront}
use Rattle.histar_script.specs.Script.{ScriptModel}
use Rattle.histar_script.specs.Outcome.{Gives}
use Rattle.histar_script.specs.Reading.{script_of}
use Rattle.histar_script.specs.declared.fault.Fault.{Fault}
use Rattle.histar_script.specs.declared.fault.Fault.TheVariants.{OutOfMemory, WriteFailed}
use Rattle.histar_rights.specs.Table.{access_table, access_text}
use Rattle.histar_rights.specs.Users.{users_table, users_text}
use Rattle.histar_shell.specs.Outcome.{AgreesWith}
use Rattle.histar_prefix.specs.Prefix.{state_before}

-- the text of the table of the flat state before this line
abbrev pub table_text : Option ℕ → ScriptModel → List ℕ
table_text at script = access_text (access_table script.accounts (state_before at script))

-- the text of the table by users of the flat state before this line
abbrev pub users_table_text : Option ℕ → ScriptModel → List ℕ
users_table_text at script = users_text (users_table script.accounts (state_before at script))

module _ (table : ScriptModel → List ℕ) where
  -- the text was read as a script, and the text of its table was written
  pub record WritesTable (old new : Option (List ℕ)) (read : Result ScriptModel Fault) : Type 0 where
    pub script : ScriptModel
    pub is_read : read ≡ Ok script
    pub written : Appends old new (table script)

  -- the text was read as a script, and a beginning of the text of its table was written
  pub record BeginsToWrite (old new : Option (List ℕ)) (read : Result ScriptModel Fault) : Type 0 where
    pub script : ScriptModel
    pub is_read : read ≡ Ok script
    pub written : AppendsFront old new (table script)

  -- At a failed write a beginning of the text was written, if memory runs out that or nothing, at other faults nothing.
  abbrev pub WritesAtFault : Option (List ℕ) → Option (List ℕ) → Result ScriptModel Fault → Fault → Type 0
  WritesAtFault old new read OutOfMemory = Keeps old new ⊎ BeginsToWrite old new read
  WritesAtFault old new read WriteFailed = BeginsToWrite old new read
  WritesAtFault old new read fault = Keeps old new

  -- The text was read as a script: its fault is returned, or exactly the text of its table was written.
  pub record TableOfText (text : List ℕ) (old new : Option (List ℕ)) (result : Result (Unit {0}) Fault) : Type 0 where
    pub faults : AgreesWith (script_of text) result
    pub writes : MatchResult result (λ _. WritesTable old new (script_of text)) (WritesAtFault old new (script_of text))

-- the table has the rights of each process
abbrev pub AccessText : Option ℕ → List ℕ → Option (List ℕ) → Option (List ℕ) → Result (Unit {0}) Fault → Type 0
AccessText at = TableOfText (table_text at)

-- the table has the rights of each user
abbrev pub UsersText : Option ℕ → List ℕ → Option (List ℕ) → Option (List ℕ) → Result (Unit {0}) Fault → Type 0
UsersText at = TableOfText (users_table_text at)

-- the text is a script, and these bytes are the text of its table by users
pub record IsUsersTextOf (at : Option ℕ) (text bytes : List ℕ) : Type 0 where
  pub script : ScriptModel
  pub is_read : script_of text ≡ Ok script
  pub is : bytes ≡ users_table_text at script

-- the text was read as a script, and these are the bytes of its table by users, or its fault is the result
abbrev pub ReadsUsers : Option ℕ → List ℕ → Result (Vec ℕ) Fault → Type 0
ReadsUsers at text (Ok bytes) = IsUsersTextOf at text bytes.items
ReadsUsers at text (Err fault) = Gives {A = ScriptModel} (Err fault) (script_of text)
