-- What a page shows of a secret beside its members: the processes outside, and the calls of the session that have read or written at its path.
use Rattle.std.specs.Prelude.{ℕ, ◌&&◌, ◌||◌, not, Bool, List, [], ◌∷◌, codes, length, nat_le, Option, None, Some, unwrap_or}
use Rattle.std.specs.Prelude.{if◌then◌else◌}
use Rattle.std.specs.List.{list_any}
use Rattle.std.specs.Str.{bytes_eq}
use Rattle.histar_flat.specs.Words.{split_at_first}
use Rattle.histar_script.specs.Lines.{split_word}
use Rattle.histar_page.specs.declared.kind.Kind.{Kind}
use Rattle.histar_page.specs.declared.kind.Kind.TheVariants.{Outsider, ReadBy, UseAddress, UseLine, WrittenBy}
use Rattle.histar_page.specs.declared.markup.Markup.{Markup}
use Rattle.histar_page.specs.declared.markup.Markup.TheVariants.{UnlessLogin, UnlessCalled}
use Rattle.histar_page.specs.declared.uses.TheConstants.{MOST_FOLLOWED_PROCESSES, MOST_FOLLOWED_SECRETS}
use Rattle.histar_page.specs.Items.{Item}
use Rattle.histar_page.specs.Items.Item.{Shown}
use Rattle.histar_page.specs.Callers.{caller}
use Rattle.histar_page.specs.Drawing.{process_of}
use Rattle.histar_page.specs.Lines.{after_word, call_on, is_refused}

-- ---- which secrets

-- files are followed through a session if they and its processes are few
abbrev pub are_followed : List (List ℕ) → List (List ℕ) → Bool
are_followed files runners = nat_le (length files) MOST_FOLLOWED_SECRETS && nat_le (length runners) MOST_FOLLOWED_PROCESSES

-- ---- who is outside

-- a member of a file has this role
abbrev pub has_role : List ℕ → List ℕ → Bool
has_role role member = bytes_eq (split_at_first 58 member).0 role

-- a member of a file is this process, trusted or confined
abbrev pub is_insider : List ℕ → List ℕ → Bool
is_insider process member =
    (has_role (codes "trusted") member || has_role (codes "confined") member) && bytes_eq (unwrap_or (split_at_first 58 member).1 []) process

-- a process that runs, if it is outside: neither trusted nor confined by these members
abbrev pub outsider_items : List (List ℕ) → List ℕ → List Item
outsider_items members runner = if list_any (is_insider (process_of runner)) members then [] else Shown Outsider (process_of runner) ∷ []

-- what has to happen before they learn of a file: a call of the trusted, if there are any, or a login
abbrev pub condition_of : List (List ℕ) → Markup
condition_of members = if list_any (has_role (codes "trusted")) members then UnlessCalled else UnlessLogin

-- ---- what was done

-- a call with this word reads or writes a file
abbrev pub use_kind : List ℕ → Option Kind
use_kind word =
    if bytes_eq word (codes "read") then Some ReadBy
    else if bytes_eq word (codes "write") || bytes_eq word (codes "append") then Some WrittenBy else None

-- a call has read or written at this path: the path is behind its word, and this reply to it is no refusal
abbrev pub used_kind : List ℕ → List ℕ → List ℕ → Option Kind
used_kind path call reply =
    if is_refused reply || not (bytes_eq (split_word (after_word (after_word call))).0 path) then None else use_kind (split_word (after_word call)).0

-- the process of such a call, and its line with a link to it
abbrev pub use_items : Option Kind → List ℕ → List ℕ → List Item
use_items None process number = []
use_items (Some kind) process number = Shown kind process ∷ Shown UseAddress number ∷ Shown UseLine number ∷ []

-- the call that a reply answers, if it has read or written at this path
abbrev pub reply_items : List (List ℕ) → List ℕ → List ℕ → List Item
reply_items script path reply = use_items (used_kind path (call_on script reply) reply) (caller script reply) (split_word reply).0
