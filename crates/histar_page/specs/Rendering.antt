-- The HTML of the items of a page.
use Rattle.std.specs.Prelude.{ℕ, List, ◌++◌, codes}
use Rattle.std.specs.List.{flat_map}
use Rattle.histar_page.specs.Escape.{escaped}
use Rattle.histar_page.specs.declared.markup.TheConstants.{STYLE}
use Rattle.histar_page.specs.declared.kind.Kind.{Kind}
use Rattle.histar_page.specs.declared.kind.Kind.TheVariants.{Title, MainTitle, FileName, Calls, Refusals}
use Rattle.histar_page.specs.declared.kind.Kind.TheVariants.{Denials, Version, LineNumber, OtherLine, Call, Reply}
use Rattle.histar_page.specs.declared.kind.Kind.TheVariants.{Refusal, RawCall, DeniedCall, Explanation, ColumnUser, Column, JobColumn, Path, Stat}
use Rattle.histar_page.specs.declared.kind.Kind.TheVariants.{Process, JobProcess, Granted, Withheld, Secret, Trusted, Confined, LoginReader}
use Rattle.histar_page.specs.declared.kind.Kind.TheVariants.{DrawnHeight, ProcessBand, FileBand, ReadEdge, WriteEdge, BothEdge, EdgeEnd, EdgeProcess}
use Rattle.histar_page.specs.declared.kind.Kind.TheVariants.{LoginBy, LoginAs, Reason, Prose, Heading, Mark, ClaimMet, ClaimMissed}
use Rattle.histar_page.specs.declared.kind.Kind.TheVariants.{HiddenBytes, UserName, GroupName, MemberName}
use Rattle.histar_page.specs.declared.kind.Kind.TheVariants.{EdgeFile, ProcessNode, FileNode, NodeName, LeakPath, LeakTitle, Flow}
use Rattle.histar_page.specs.declared.kind.Kind.TheVariants.{RuleAddress, RuleCaller, LinkTarget, LinkAddress, LinkName, CallBy, BareBy}
use Rattle.histar_page.specs.declared.kind.Kind.TheVariants.{SetUpCalls, SetUpBy, BareSetUpBy}
use Rattle.histar_page.specs.declared.kind.Kind.TheVariants.{LineId, Outsider, ReadBy, WrittenBy, UseAddress, UseLine}
use Rattle.histar_page.specs.declared.markup.Markup.{Markup}
use Rattle.histar_page.specs.declared.markup.Markup.TheVariants.{Begin, Style, EndStyle, EndHead, BeginWho}
use Rattle.histar_page.specs.declared.markup.Markup.TheVariants.{EndWho, BeginSession, BeginBoot, BeginOther}
use Rattle.histar_page.specs.declared.markup.Markup.TheVariants.{BeginBehind, EndCall, EndBare, EndSession, BeginFiles, EndUsers}
use Rattle.histar_page.specs.declared.markup.Markup.TheVariants.{EndColumns, BeginRow, EndCell, EndRow, EndFiles, FilesLeftOut}
use Rattle.histar_page.specs.declared.markup.Markup.TheVariants.{BeginSecrets, NoSecrets, OnSecrets, SecretsLeftOut}
use Rattle.histar_page.specs.declared.markup.Markup.TheVariants.{BeginSummary, BeginLaw, UnlessCalled, UnlessLogin}
use Rattle.histar_page.specs.declared.markup.Markup.TheVariants.{BeginSecret, EndSecret, EndSecrets, BeginLabels, NotDrawn, BeginDrawing, Arrows}
use Rattle.histar_page.specs.declared.markup.Markup.TheVariants.{OnTitles, NoTitles, BeginFlows, OnFlows, EndFlows, EndDrawing, End}
use Rattle.histar_page.specs.Items.{Item}
use Rattle.histar_page.specs.Items.Item.{Fixed, Shown}

-- the markup before a text of a kind; a kind that is not named here has none
abbrev pub opening : Kind → List ℕ
opening Title = codes "<title>"
opening RuleAddress = codes "[id=\"by-"
opening MainTitle = codes "<h1>"
opening FileName = codes "<p>\n<span>file: <b>"
opening Calls = codes "<span>calls: <b>"
opening Refusals = codes "<span>refusals: <b>"
opening Denials = codes "<span>denied raw calls: <b>"
opening Version = codes "<span>histar <b>"
opening LinkTarget = codes "<a class=\"by\" id=\"by-"
opening CallBy = codes "<details data-by=\""
opening BareBy = codes "<div class=\"bare\" data-by=\""
opening SetUpCalls = codes "<a class=\"by\" id=\"set-up\" href=\"#set-up\">"
opening SetUpBy = codes "<details class=\"set\" data-by=\""
opening BareSetUpBy = codes "<div class=\"bare set\" data-by=\""
opening LineNumber = codes "<span class=\"number\">"
opening OtherLine = codes "<b>"
opening Call = codes "<code class=\"call\">"
opening LoginBy = codes "<code class=\"call\">"
opening LoginAs = codes " login "
opening Reply = codes "<code class=\"reply\">"
opening Refusal = codes "<code class=\"refusal\">"
opening Reason = codes "<span class=\"reason\">"
opening Prose = codes "<p class=\"prose\">"
opening Heading = codes "<h3>"
opening Mark = codes "<p class=\"mark\"><code>"
opening ClaimMet = codes "<p class=\"met\">expected <code>"
opening ClaimMissed = codes "<p class=\"missed\">expected <code>"
opening RawCall = codes "<code class=\"raw\">"
opening HiddenBytes = codes "<code class=\"raw\">"
opening DeniedCall = codes "<code class=\"raw denied\">"
opening Explanation = codes "<code class=\"why\">"
opening UserName = codes "<span class=\"user\">user <b>"
opening GroupName = codes "<span class=\"group\">group <b>"
opening MemberName = codes "<span class=\"member\">with <b>"
opening ColumnUser = codes "<th scope=\"col\">"
opening Column = codes "<th scope=\"col\">"
opening JobColumn = codes "<th scope=\"col\" class=\"job\">"
opening Path = codes "<th scope=\"row\">"
opening Stat = codes "<td class=\"stat\">"
opening Process = codes "<td class=\"rights\"><small>"
opening JobProcess = codes "<td class=\"rights job\"><small>"
opening Granted = codes "<b>"
opening Withheld = codes "<i>"
opening Secret = codes "<code>"
opening Trusted = codes "<span class=\"trusted\">trusted <b>"
opening Confined = codes "<span class=\"confined\">confined <b>"
opening Outsider = codes "<span class=\"outside\">outside <b>"
opening ReadBy = codes "<span class=\"use\">"
opening WrittenBy = codes "<span class=\"use\">"
opening UseAddress = codes "<a href=\"#line-"
opening LoginReader = codes "<span class=\"login\">login <b>"
opening LeakPath = codes "<p class=\"titled\"><code>"
opening LeakTitle = codes "<p class=\"leak\"><code>"
opening Flow = codes "<p class=\"flow\"><code>"
opening DrawnHeight = codes "<svg viewBox=\"0 0 936 "
opening ProcessBand = codes "<rect class=\"job\" width=\"216\" height=\"44\" y=\"-9\" transform=\"translate(0 "
opening FileBand = codes "<rect class=\"job\" width=\"416\" height=\"32\" y=\"-3\" transform=\"translate(512 "
opening ReadEdge = codes "<line class=\"reads\" marker-start=\"url(#read)\" x1=\"210\" x2=\"518\" y1=\""
opening WriteEdge = codes "<line class=\"writes\" marker-end=\"url(#written)\" x1=\"210\" x2=\"518\" y1=\""
opening BothEdge = codes "<line class=\"both\" marker-start=\"url(#both)\" marker-end=\"url(#both)\" x1=\"210\" x2=\"518\" y1=\""
opening ProcessNode = codes "<g class=\"node\" transform=\"translate(8 "
opening FileNode = codes "<g class=\"node\" transform=\"translate(520 "
opening NodeName = codes "<text x=\"8\" y=\"18\">"
opening kind = codes ""

-- the markup after a text of a kind
abbrev pub closing : Kind → List ℕ
closing Title = codes "</title>\n"
closing RuleAddress = codes "\"]:target ~ :is(details, .bare):not([data-by=\""
closing RuleCaller = codes "\"]) { display: none }\n"
closing MainTitle = codes "</h1>\n"
closing FileName = codes "</b></span>\n"
closing Calls = codes "</b></span>\n"
closing Refusals = codes "</b></span>\n"
closing Denials = codes "</b></span>\n"
closing Version = codes "</b></span>\n"
closing LinkTarget = codes "\" href=\"#by-"
closing LinkAddress = codes "\">by "
closing LinkName = codes "</a>\n"
closing CallBy = codes "\" id=\"line-"
closing BareBy = codes "\" id=\"line-"
closing SetUpCalls = codes " set-up calls</a>\n"
closing SetUpBy = codes "\" id=\"line-"
closing BareSetUpBy = codes "\" id=\"line-"
closing LineId = codes "\">"
closing LineNumber = codes "</span>\n"
closing OtherLine = codes "</b>"
closing Call = codes "</code>\n"
closing LoginBy = codes ""
closing LoginAs = codes " &bull;&bull;&bull;&bull;</code>\n"
closing Reply = codes "</code>\n"
closing Refusal = codes "</code>\n"
closing Reason = codes "</span>\n"
closing Prose = codes "</p>\n"
closing Heading = codes "</h3>\n"
closing Mark = codes "</code></p>\n"
closing ClaimMet = codes "</code></p>\n"
closing ClaimMissed = codes "</code></p>\n"
closing RawCall = codes "</code>\n"
closing HiddenBytes = codes "x&bull;&bull;&bull;&bull; = ok</code>\n"
closing DeniedCall = codes "</code>\n"
closing Explanation = codes "</code>\n"
closing UserName = codes "</b></span>\n"
closing GroupName = codes "</b></span>\n"
closing MemberName = codes "</b></span>\n"
closing ColumnUser = codes "</th>"
closing Column = codes "</th>"
closing JobColumn = codes "</th>"
closing Path = codes "</th>"
closing Stat = codes "</td>"
closing Process = codes "</small>"
closing JobProcess = codes "</small>"
closing Granted = codes "</b>"
closing Withheld = codes "</i>"
closing Secret = codes "</code>\n"
closing Trusted = codes "</b></span>\n"
closing Confined = codes "</b></span>\n"
closing Outsider = codes "</b></span>\n"
closing ReadBy = codes " read here at line "
closing WrittenBy = codes " wrote here at line "
closing UseAddress = codes "\">"
closing UseLine = codes "</a></span>\n"
closing LoginReader = codes "</b></span>\n"
closing LeakPath = codes "</code></p>\n"
closing LeakTitle = codes "</code></p>\n"
closing Flow = codes "</code></p>\n"
closing DrawnHeight = codes "\" role=\"img\" aria-label=\"Processes and files\">\n"
closing ProcessBand = codes ")\"></rect>\n"
closing FileBand = codes ")\"></rect>\n"
closing ReadEdge = codes "\" y2=\""
closing WriteEdge = codes "\" y2=\""
closing BothEdge = codes "\" y2=\""
closing EdgeEnd = codes "\"><title>"
closing EdgeProcess = codes " and "
closing EdgeFile = codes "</title></line>\n"
closing ProcessNode = codes ")\"><rect width=\"200\" height=\"26\" rx=\"4\"></rect>"
closing FileNode = codes ")\"><rect width=\"400\" height=\"26\" rx=\"4\"></rect>"
closing NodeName = codes "</text></g>\n"

-- a fixed text
abbrev pub markup_text : Markup → List ℕ
markup_text Begin =
    codes "<!DOCTYPE html>\n<html lang=\"en\">\n<head>\n<meta charset=\"utf-8\">\n<meta name=\"viewport\" "
    ++ codes "content=\"width=device-width, initial-scale=1\">\n"
markup_text Style = STYLE.now
markup_text EndStyle = codes "</style>\n</head>\n<body>\n<header>\n"
markup_text EndHead =
    codes "</p>\n<nav><a href=\"#who\">Who</a> <a href=\"#session\">Session</a> <a href=\"#files\">Files</a> <a "
    ++ codes "href=\"#secrets\">Secrets</a> <a href=\"#flows\">Flows</a> <a href=\"#drawing\">Drawing</a></nav>\n</header>\n<main>\n"
markup_text BeginWho = codes "<section id=\"who\">\n<h2>Who</h2>\n<p class=\"who\">\n"
markup_text EndWho = codes "</p>\n</section>\n"
markup_text BeginSession =
    codes "<section id=\"session\">\n<h2>Session</h2>\n"
    ++ codes "<p id=\"refusals\"><a href=\"#session\">All</a> <a href=\"#refusals\">Refusals</a></p>\n"
markup_text BeginBoot = codes "<details class=\"other\">\n<summary>Boot, line "
markup_text BeginOther = codes "<details class=\"other\">\n<summary>Raw calls of line "
markup_text BeginSummary = codes "\n<summary>"
markup_text BeginBehind = codes "</summary>\n<div class=\"behind\">\n"
markup_text EndCall = codes "</div>\n</details>\n"
markup_text EndBare = codes "</div>\n"
markup_text EndSession = codes "</section>\n"
markup_text BeginFiles =
    codes "<section id=\"files\">\n<h2>Files</h2>\n<p>Who may do what at the end: s to see it, r to read it, w to write it, d to "
    ++ codes "take it away. Above each process is its user; the tinted columns are of processes in jobs.</p>\n<div "
    ++ codes "class=\"wide\">\n<table>\n<thead>\n<tr class=\"users\"><td colspan=\"4\"></td>"
markup_text EndUsers =
    codes "</tr>\n<tr><th scope=\"col\">Path</th><th scope=\"col\">Kind</th><th scope=\"col\">Owner</th><th "
    ++ codes "scope=\"col\">Mode</th>"
markup_text EndColumns = codes "</tr>\n</thead>\n<tbody>\n"
markup_text BeginRow = codes "<tr>"
markup_text EndCell = codes "</td>"
markup_text EndRow = codes "</tr>\n"
markup_text EndFiles = codes "</tbody>\n</table>\n</div>\n</section>\n"
markup_text FilesLeftOut =
    codes "<section id=\"files\">\n<h2>Files</h2>\n<p>Their table has more than 1,000,000 bytes and is left out. "
    ++ codes "<code>histar access</code> prints it.</p>\n</section>\n"
markup_text SecretsLeftOut =
    codes "<section id=\"secrets\">\n<h2>Secrets</h2>\n<p>Their lines have more than 1,000,000 bytes and are left out. "
    ++ codes "<code>histar trust</code> prints the one of a file.</p>\n</section>\n"
markup_text BeginSecrets = codes "<section id=\"secrets\">\n<h2>Secrets</h2>\n"
markup_text NoSecrets = codes "<p>Each file is for everyone to read at the end.</p>\n"
markup_text OnSecrets =
    codes "<p>On whom each file rests at the end that isn't for everyone to read: the trusted could pass it on, the confined "
    ++ codes "can't, and who logs in as one of these users may read it.</p>\n"
markup_text BeginSecret = codes "<p class=\"secret\">\n"
markup_text BeginLaw = codes "</p>\n<p class=\"sentence\"><span>After the session nobody outside learns what is in "
markup_text UnlessCalled = codes "unless a trusted process makes a call, or they log in as a reader (<code>outsiders_learn_nothing</code>).</span>\n"
markup_text UnlessLogin = codes "unless they log in as a reader (<code>outsiders_learn_nothing</code>).</span>\n"
markup_text EndSecret = codes "</p>\n"
markup_text OnTitles =
    codes "<h3>How each is revealed or changed</h3>\n<p>Below each file: which processes reveal it and to whom, which users read "
    ++ codes "it after a login, and who changes it. These are the titles of what <code>histar leak</code> prints of the file, with "
    ++ codes "the calls.</p>\n"
markup_text NoTitles =
    codes "<h3>How each is revealed or changed</h3>\n<p>This is left out, since there are too many files and processes. "
    ++ codes "<code>histar leak</code> prints it of one file.</p>\n"
markup_text EndSecrets = codes "</section>\n"
markup_text BeginFlows = codes "<section id=\"flows\">\n<h2>Flows</h2>\n"
markup_text OnFlows =
    codes "<p>To whom each process can pass on what it learns, at the end: a process in a job to those alone that know each of "
    ++ codes "its jobs. An exclamation mark is behind one that holds such a job, and may pass on what the job made.</p>\n"
markup_text EndFlows = codes "</section>\n"
markup_text BeginLabels = codes "<section id=\"drawing\">\n<h2>Drawing</h2>\n"
markup_text NotDrawn = codes "<p>It has more than 12 processes or 30 files and directories at the end, and is not drawn.</p>\n</section>\n"
markup_text BeginDrawing =
    codes "<p>Processes are on the left, files and directories on the right. A line with a head at the process says that it may "
    ++ codes "read the file, one with a head at the file that it may write there: so what one writes another may read. The bands "
    ++ codes "are jobs, and what they may change.</p>\n<div class=\"wide\">\n"
markup_text Arrows =
    codes "<defs>\n<marker id=\"read\" viewBox=\"0 0 8 8\" refX=\"7\" refY=\"4\" markerWidth=\"8\" markerHeight=\"8\" "
    ++ codes "orient=\"auto-start-reverse\"><path class=\"reads\" d=\"M0 0 8 4 0 8z\"></path></marker>\n<marker id=\"written\" "
    ++ codes "viewBox=\"0 0 8 8\" refX=\"7\" refY=\"4\" markerWidth=\"8\" markerHeight=\"8\" orient=\"auto-start-reverse\"><path "
    ++ codes "class=\"writes\" d=\"M0 0 8 4 0 8z\"></path></marker>\n<marker id=\"both\" viewBox=\"0 0 8 8\" refX=\"7\" refY=\"4\" "
    ++ codes "markerWidth=\"8\" markerHeight=\"8\" orient=\"auto-start-reverse\"><path class=\"both\" d=\"M0 0 8 4 0 "
    ++ codes "8z\"></path></marker>\n</defs>\n"
markup_text EndDrawing = codes "</svg>\n</div>\n</section>\n"
markup_text End = codes "</main>\n</body>\n</html>\n"

-- the HTML of a text of this kind: the text, escaped, between its tags
abbrev pub shown_text : Kind → List ℕ → List ℕ
shown_text kind text = opening kind ++ escaped text ++ closing kind

-- the HTML of an item
abbrev pub item_text : Item → List ℕ
item_text (Fixed markup) = markup_text markup
item_text (Shown kind text) = shown_text kind text

-- the HTML of items
abbrev pub rendered : List Item → List ℕ
rendered items = flat_map item_text items
