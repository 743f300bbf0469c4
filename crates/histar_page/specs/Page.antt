-- The page of a session, which is a function of its sources.
use Rattle.std.specs.Prelude.{ℕ, Bool, List, [], ◌∷◌, ◌++◌, filter, length, nat_lt, if◌then◌else◌}
use Rattle.histar_script.specs.Lines.{lines_of}
use Rattle.histar_page.specs.declared.markup.Markup.TheVariants.{FilesLeftOut, SecretsLeftOut}
use Rattle.histar_page.specs.declared.page.TheConstants.{MOST_SHOWN_BYTES}
use Rattle.histar_page.specs.declared.page.Texts.{Texts}
use Rattle.histar_page.specs.Items.{Item}
use Rattle.histar_page.specs.Items.Item.{Fixed}
use Rattle.histar_page.specs.Rendering.{rendered}
use Rattle.histar_page.specs.Head.{head_items, style_items, title_of}
use Rattle.histar_page.specs.Callers.{callers}
use Rattle.histar_page.specs.Lines.{is_reply}
use Rattle.histar_page.specs.Who.{who_items}
use Rattle.histar_page.specs.Session.{session_items}
use Rattle.histar_page.specs.Files.{files_items, runners_of}
use Rattle.histar_page.specs.Secrets.{secrets_items}
use Rattle.histar_page.specs.Flows.{flows_items}
use Rattle.histar_page.specs.Drawing.{drawing_items, jobs_of, undrawn_items}

-- the texts that a page is made of
pub record Sources : Type 0 where
  pub name : List ℕ
  pub version : List ℕ
  pub script : List ℕ
  pub output : List ℕ
  pub reasons : List ℕ
  pub table : List ℕ
  pub secrets : List ℕ
  pub titles : List ℕ
  pub flows : List ℕ

-- the texts behind the references
abbrev pub sources_of : Texts → Sources
sources_of texts = record {
  name = texts.name.now;
  version = texts.version.now;
  script = texts.script.now;
  output = texts.output.now;
  reasons = texts.reasons.now;
  table = texts.table.now;
  secrets = texts.secrets.now;
  titles = texts.titles.now;
  flows = texts.flows.now;
}

-- the head, with the title of the script and a rule of style for each process that calls, and then the users and groups
abbrev pub head_shown : Sources → List Item
head_shown sources =
    style_items (title_of sources.name (lines_of sources.script)) (callers (lines_of sources.script) (filter is_reply (lines_of sources.output)))
    ++ head_items (title_of sources.name (lines_of sources.script)) sources.name sources.version (lines_of sources.output)
    ++ who_items (lines_of sources.script)

-- the calls of the session
abbrev pub session_shown : Sources → List Item
session_shown sources = session_items (lines_of sources.script) (lines_of sources.output) (lines_of sources.reasons)

-- a text on rights is too long to be shown
abbrev pub is_long : List ℕ → Bool
is_long text = nat_lt MOST_SHOWN_BYTES (length text)

-- the files, with the jobs of the session and the users of its processes, unless their table is too long
abbrev pub files_shown : Sources → List Item
files_shown sources =
    if is_long sources.table then Fixed FilesLeftOut ∷ []
    else files_items (jobs_of (lines_of sources.script) (lines_of sources.output)) (runners_of (lines_of sources.secrets)) (lines_of sources.table)

-- the secrets with their titles, unless their lines are too long
abbrev pub secrets_shown : Sources → List Item
secrets_shown sources =
    if is_long sources.secrets then Fixed SecretsLeftOut ∷ []
    else secrets_items (lines_of sources.script) (filter is_reply (lines_of sources.output)) (lines_of sources.secrets) (lines_of sources.titles)

-- the drawing, which is left out where the table is too long to be shown
abbrev pub drawing_shown : Sources → List Item
drawing_shown sources =
    if is_long sources.table then undrawn_items
    else drawing_items (lines_of sources.script) (lines_of sources.output) (lines_of sources.table)

-- the files, the secrets with their titles, the flows and the drawing
abbrev pub rights_shown : Sources → List Item
rights_shown sources =
    files_shown sources ++ secrets_shown sources ++ flows_items (lines_of sources.flows) ++ drawing_shown sources

-- what stands on a page: its head, the users and groups, the session, the files, the secrets with their titles, the flows and the drawing
abbrev pub page_items : Sources → List Item
page_items sources = head_shown sources ++ session_shown sources ++ rights_shown sources

-- the page of these sources
abbrev pub page_of : Sources → List ℕ
page_of sources = rendered (page_items sources)
