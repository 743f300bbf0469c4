-- What `run` prints to outsiders: the noninterference of secrets, from the bytes of scripts to the bytes of replies.
use Rattle.std.specs.Prelude.{◌≡◌, ℕ, List, ◌∷◌, ◌++◌, Ok, filter, map}
use Rattle.histar_flat.specs.declared.calls.CallLine.{CallLine}
use Rattle.histar_flat.specs.declared.calls.UnixCall.TheVariants.{Write}
use Rattle.histar_flat.specs.Words.{Path, ProcName}
use Rattle.histar_flat.specs.Accounts.{Accounts}
use Rattle.histar_flat.specs.Classes.{Class}
use Rattle.histar_flat.specs.FlatState.{Flat}
use Rattle.histar_flat.specs.Meaning.{RepliedCall, boot, flat_end, meaning}
use Rattle.histar_flat.specs.Texts.{reply_text}
use Rattle.histar_script.specs.Script.{ScriptModel}
use Rattle.histar_script.specs.Reading.{script_of}
use Rattle.histar_secrecy.specs.Roles.{is_outsider}
use Rattle.histar_secrecy.specs.Noninterference.{HasFile, OutsidersCallTheSame, Writes}
use Rattle.histar_shell.specs.declared.session.Options.{Options}
use Rattle.histar_shell.specs.Answers.{answers_text, calls_of}
use Rattle.histar_shell.specs.Meaning.{asked_tree, last_state, meaning_text}

-- a call line on which a process writes these bytes to a file
abbrev pub writing : ℕ → ProcName → Path → List ℕ → CallLine
writing line writer path bytes = record { line = line; process = writer; call = Write path bytes }

module _ (accounts : Accounts) (way : List Class) (path : Path) (before : List CallLine) where
  -- the state after the calls that two scripts begin with
  abbrev pub state_met : Flat
  state_met = flat_end accounts (boot accounts) before

  -- The script has these users and groups. It begins with these calls, then a process writes these bytes to the file, which is done, and
  -- these calls follow.
  pub record WritesBehind (script : ScriptModel) (writer : ProcName) (bytes : List ℕ) (calls : List CallLine) : Type 0 where
    pub line : ℕ
    pub accounts_is : script.accounts ≡ accounts
    pub calls_are : script.calls ≡ before ++ writing line writer path bytes ∷ calls
    pub writes : Writes accounts state_met writer path bytes

  -- the texts of the replies to the processes that are outsiders after these calls
  abbrev pub outside_texts : List RepliedCall → List (List ℕ)
  outside_texts answers = map (λ (a : RepliedCall). reply_text a.reply)
      (filter (λ (a : RepliedCall). is_outsider accounts way state_met a.call.process) answers)

-- These answers, to these calls, are the last ones of a script's meaning; and `run` prints for the script the lines of the first answers,
-- then the lines of these, and then the tree if it is asked for.
pub record PrintsBehind (options : Options) (script : ScriptModel) (calls : List CallLine) (answers : List RepliedCall) : Type 0 where
  pub first : List RepliedCall
  pub meant : meaning script.accounts script.calls ≡ first ++ answers
  pub these_calls : calls_of answers ≡ calls
  pub text : meaning_text options script ≡ answers_text first ++ answers_text answers ++ asked_tree options (last_state script)

-- The lines that `run` prints of both scripts after the secret was written: the replies to outsiders have the same texts in both.
pub record PrintTheSame (options : Options) (accounts : Accounts) (way : List Class) (path : Path) (before : List CallLine)
    (one two : ScriptModel) (calls others : List CallLine) : Type 0 where
  pub answers : List RepliedCall
  pub prints : PrintsBehind options one calls answers
  pub other_answers : List RepliedCall
  pub other_prints : PrintsBehind options two others other_answers
  pub alike : outside_texts accounts way path before answers ≡ outside_texts accounts way path before other_answers

-- Two inputs are scripts that begin with the same calls, after which a file of the class is at the path. Then a process writes one string
-- of bytes to it in one script, and another in the other. After that the trusted are silent in both, and outsiders make the same calls and
-- log in as no reader. Then `run` prints the same replies to outsiders, whatever the confined call in each.
abbrev pub OutsidersReadTheSame : Type 0
OutsidersReadTheSame = (options : Options) (text other : List ℕ) (one two : ScriptModel) → script_of text ≡ Ok one → script_of other ≡ Ok two
    → (accounts : Accounts) (way : List Class) (path : Path) (before : List CallLine) → HasFile (state_met accounts way path before) path way
    → (writer : ProcName) (bytes other_bytes : List ℕ) (calls others : List CallLine)
    → WritesBehind accounts way path before one writer bytes calls → WritesBehind accounts way path before two writer other_bytes others
    → OutsidersCallTheSame accounts way (state_met accounts way path before) calls others
    → PrintTheSame options accounts way path before one two calls others
