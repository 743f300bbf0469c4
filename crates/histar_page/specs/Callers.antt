-- The processes whose calls a session answers, and by what a reader sees the calls of one of them alone.
use Rattle.std.specs.Prelude.{ℕ, ◌&&◌, ◌||◌, not, Bool, List, [], ◌∷◌, ◌++◌, ◌==◌, filter, length, map, nat_le, nat_lt, take}
use Rattle.std.specs.Prelude.{if◌then◌else◌}
use Rattle.std.specs.List.{list_all, list_any}
use Rattle.std.specs.Str.{bytes_eq}
use Rattle.histar_script.specs.Lines.{split_word}
use Rattle.histar_page.specs.declared.callers.TheConstants.{MOST_ALONE}
use Rattle.histar_page.specs.declared.kind.Kind.TheVariants.{LinkAddress, LinkName, LinkTarget, RuleAddress, RuleCaller}
use Rattle.histar_page.specs.Items.{Item}
use Rattle.histar_page.specs.Items.Item.{Shown}
use Rattle.histar_page.specs.Lines.{call_on}

-- ---- who calls

-- the process whose call a reply answers: the first word of that call
abbrev pub caller : List (List ℕ) → List ℕ → List ℕ
caller script reply = (split_word (call_on script reply)).0

-- a byte is a digit or a dot
abbrev pub is_name_byte : ℕ → Bool
is_name_byte b = b == 46 || (nat_le 48 b && nat_le b 57)

-- a word can be the name of a process: it has a byte, and digits and dots alone
abbrev pub is_name : List ℕ → Bool
is_name word = not (length word == 0) && list_all is_name_byte word

-- words, each once, in the order in which they come first
abbrev pub each_once : List (List ℕ) → List (List ℕ)
each_once [] = []
each_once (word ∷ words) = word ∷ filter (λ other. not (bytes_eq word other)) (each_once words)

-- the processes of a session, each once, in the order of their first calls that were answered, but for MOST_ALONE at most
abbrev pub callers : List (List ℕ) → List (List ℕ) → List (List ℕ)
callers script replies = take MOST_ALONE (each_once (filter is_name (map (caller script) replies)))

-- ---- how they are found

-- a word is one of these
abbrev pub is_among : List (List ℕ) → List ℕ → Bool
is_among words word = list_any (λ other. bytes_eq other word) words

-- a process comes after these: there are fewer than MOST_ALONE, and it isn't one of them
abbrev pub is_next : List (List ℕ) → List ℕ → Bool
is_next processes word = nat_lt (length processes) MOST_ALONE && (is_name word && not (is_among processes word))

-- these processes, and one more if it comes after them
abbrev pub with_caller : List (List ℕ) → List ℕ → List (List ℕ)
with_caller processes word = if is_next processes word then processes ++ word ∷ [] else processes

-- ---- how the calls of one are shown alone

-- the link to the place that the link itself is: at this address the calls of the process are shown alone
abbrev pub link_items : List ℕ → List Item
link_items process = Shown LinkTarget process ∷ Shown LinkAddress process ∷ Shown LinkName process ∷ []

-- the rule of style that hides the calls of all others at this address
abbrev pub rule_items : List ℕ → List Item
rule_items process = Shown RuleAddress process ∷ Shown RuleCaller process ∷ []
