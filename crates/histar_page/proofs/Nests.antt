-- The tags of a page nest: what a reader has read behind each of its items.
use Rattle.std.proofs.Common.{◌≡◌, ℕ, ◌+◌, List, [], ◌∷◌, ◌++◌, ◌∙◌, refl, ap, true, false, map, drop, length}
use Rattle.std.specs.Prelude.{◌||◌, ◌==◌, ◌-◌, not, Bool, Option, None, Some, codes, decimal, filter, nat_lt, unwrap_or}
use Rattle.std.specs.List.{flat_map, list_any}
use Rattle.std.specs.Str.{bytes_eq}
use Rattle.std.proofs.lemmas.Bool.{and_parts}
use Rattle.std.proofs.lemmas.List.Concat.{flat_map-append}
use Rattle.histar_flat.specs.Words.{split_at_first}
use Rattle.histar_page.specs.Escape.{escaped}
use Rattle.histar_page.specs.Reading.{IsText, is_markup_byte}
use Rattle.histar_page.proofs.EscapeLemmas.{text_bytes}
use Rattle.histar_script.specs.Lines.{lines_of, split_word}
use Rattle.histar_page.specs.declared.kind.Kind.{Kind}
use Rattle.histar_page.specs.declared.kind.Kind.TheVariants.{BothEdge, Call, Calls, ClaimMet, ClaimMissed, Column, Confined, DeniedCall, Denials}
use Rattle.histar_page.specs.declared.kind.Kind.TheVariants.{DrawnHeight, EdgeEnd, EdgeFile, EdgeProcess, Explanation, FileBand, FileName, FileNode}
use Rattle.histar_page.specs.declared.kind.Kind.TheVariants.{Flow, Granted, GroupName, Heading, HiddenBytes, JobColumn, JobProcess, LeakPath}
use Rattle.histar_page.specs.declared.kind.Kind.TheVariants.{LeakTitle, LineNumber, LoginAs, LoginBy, LoginReader, MainTitle, Mark, MemberName}
use Rattle.histar_page.specs.declared.kind.Kind.TheVariants.{NodeName, OtherLine, Path, Process, ProcessBand, ProcessNode, Prose, RawCall, ReadEdge}
use Rattle.histar_page.specs.declared.kind.Kind.TheVariants.{Reason, Refusal, Refusals, Reply, Secret, Stat, Title, Trusted, UserName, Version}
use Rattle.histar_page.specs.declared.kind.Kind.TheVariants.{ColumnUser, Withheld, WriteEdge}
use Rattle.histar_page.specs.declared.kind.Kind.TheVariants.{BareBy, BareSetUpBy, CallBy, LineId, LinkAddress, LinkName, LinkTarget, Outsider}
use Rattle.histar_page.specs.declared.kind.Kind.TheVariants.{ReadBy, RuleAddress, RuleCaller, SetUpBy, SetUpCalls, UseAddress, UseLine, WrittenBy}
use Rattle.histar_page.specs.declared.markup.Markup.{Markup}
use Rattle.histar_page.specs.declared.markup.Markup.TheVariants.{Arrows, Begin, BeginBehind, BeginBoot, BeginDrawing}
use Rattle.histar_page.specs.declared.markup.Markup.TheVariants.{BeginFiles, BeginFlows, BeginLabels, BeginOther, BeginRow, BeginSecret, BeginSecrets}
use Rattle.histar_page.specs.declared.markup.Markup.TheVariants.{BeginSession, BeginWho, End, EndBare, EndCall, EndCell, EndColumns, EndDrawing}
use Rattle.histar_page.specs.declared.markup.Markup.TheVariants.{EndFiles, EndFlows, EndHead, EndRow, EndSecret, EndSecrets, EndSession, EndUsers}
use Rattle.histar_page.specs.declared.markup.Markup.TheVariants.{BeginLaw, BeginSummary, FilesLeftOut, SecretsLeftOut, UnlessLogin, UnlessCalled}
use Rattle.histar_page.specs.declared.markup.Markup.TheVariants.{EndStyle, EndWho, NoSecrets, NoTitles, NotDrawn, OnFlows, OnSecrets, OnTitles, Style}
use Rattle.histar_page.specs.Items.{Item}
use Rattle.histar_page.specs.Items.Item.{Fixed, Shown}
use Rattle.histar_page.specs.Page.{is_long}
use Rattle.histar_page.specs.Rendering.{closing, item_text, markup_text, opening, rendered}
use Rattle.histar_page.specs.Lines.{after_word, call_on, has_mark, is_denied, is_explanation, is_raw_call, is_reason, is_refused, is_reply}
use Rattle.histar_page.specs.Lines.{mark_number, without_first, words_of}
use Rattle.histar_page.specs.Order.{Marked, later_marked, own_marked, past_own, taken_own}
use Rattle.histar_page.specs.Callers.{caller, callers, link_items, rule_items}
use Rattle.histar_page.specs.Head.{head_items, style_items, title_of}
use Rattle.histar_page.specs.Who.{declared_items, group_member_item, who_items}
use Rattle.histar_page.specs.Story.{is_login, line_number, lines_between, note_items, prose_items, reason_item, reply_kind, shown_call, call_items}
use Rattle.histar_page.specs.Session.{at_bytes, begin_items, call_kind, calls_items, framed_items, hides_bytes, kernel_items}
use Rattle.histar_page.specs.Session.{other_call_items, other_why_items, raw_item, turns_from, why_item}
use Rattle.histar_page.specs.SetUp.{folded_count, set_up_link}
use Rattle.histar_page.specs.Files.{cells_items, column_items, files_items, first_flag, job_columns, later_flags, line_items, right_item, row_items}
use Rattle.histar_page.specs.Files.{runners_of, stat_item, user_item}
use Rattle.histar_page.specs.Secrets.{followed_items, lines_items, member_item, note_on, note_on_titles, secret_items, secrets_items}
use Rattle.histar_page.specs.Uses.{are_followed, condition_of, has_role, is_insider, outsider_items, reply_items, use_items}
use Rattle.histar_page.specs.Titles.{title_item}
use Rattle.histar_page.specs.Flows.{flow_item, flows_items}
use Rattle.histar_page.specs.Places.{drawn_height, file_top, half_height, process_top}
use Rattle.histar_page.specs.Drawing.{bands_of, changes_by, drawing_items, drawn_items, edge, edge_kind, file_bands, file_nodes, first_cells}
use Rattle.histar_page.specs.Drawing.{has_letter, is_drawn, is_within, jobs_of, line_cells, line_path, process_bands, process_nodes, process_of}
use Rattle.histar_page.specs.Drawing.{row_edges, table_edges, undrawn_items}
use Rattle.histar_page.specs.Laws.{PagesNest}
use Rattle.histar_page.specs.Nesting.{Reader, after_byte, after_text, within}
use Rattle.histar_page.specs.Nesting.Place.{InTag}
use Rattle.histar_page.proofs.StoryLemmas.{by_if}

-- ---- texts

-- a reader goes on, if it is one
abbrev onward : List ℕ → Option Reader → Option Reader
onward text None = None
onward text (Some reader) = after_text reader text

-- two texts are read one after another
read-append : (xs ys : List ℕ) (reader : Reader) → after_text reader (xs ++ ys) ≡ onward ys (after_text reader xs)
read-append [] ys reader = refl
read-append (b ∷ xs) ys reader =
    elim (after_byte reader.begun reader.place b) as (λ o. elim o [ None ↦ None | Some next ↦ after_text next (xs ++ ys) ]
    ≡ onward ys (elim o [ None ↦ None | Some next ↦ after_text next xs ]))
    [ None ↦ refl | Some next ↦ read-append xs ys next ]

-- A reader gets by a text from one state to another.
pub record Reads (text : List ℕ) (before after : Reader) : Type 0 where
  pub reads : after_text before text ≡ Some after

-- two texts lead on
both : {xs ys : List ℕ} {first second third : Reader} → Reads xs first second → Reads ys second third → Reads (xs ++ ys) first third
both {xs} {ys} {first} a b = record { reads = read-append xs ys first ∙ ap (onward ys) a.reads ∙ b.reads }

-- a byte that is no markup is neither `<` nor `>`
plain_byte : (b : ℕ) → not (is_markup_byte b) ≡ true → ((b == 60) ≡ false) × ((b == 62) ≡ false)
plain_byte b h = by (b == 60) (b == 62) (b == 34) (b == 39) h
  where
    by : (x y z w : Bool) → not (x || y || z || w) ≡ true → (x ≡ false) × (y ≡ false)
    by true y z w e = absurd cc
    by false true z w e = absurd cc
    by false false z w e = (refl, refl)

-- a text without markup is read in a text
text_read : (begun : List (List ℕ)) (text : List ℕ) → IsText text → after_text (within begun) text ≡ Some (within begun)
text_read begun [] is = refl
text_read begun (b ∷ bs) is =
    let byte = plain_byte b (and_parts (not (is_markup_byte b)) _ is.0).0 in rw byte.0 (text_read begun bs is.1)

-- a reader in a tag
abbrev in_tag : List ℕ → List (List ℕ) → Reader
in_tag name begun = record { begun = begun; place = InTag name }

-- a byte that is neither `<` nor `>` leaves a reader in a tag
stays : (name : List ℕ) (begun : List (List ℕ)) (b : ℕ) → (b == 60) ≡ false → (b == 62) ≡ false
    → after_byte begun (InTag name) b ≡ Some (in_tag name begun)
stays name begun b less greater = rw (greater, less) refl

-- a text without markup is read in a tag
tag_read : (name : List ℕ) (begun : List (List ℕ)) (text : List ℕ)
    → IsText text → after_text (in_tag name begun) text ≡ Some (in_tag name begun)
tag_read name begun [] is = refl
tag_read name begun (b ∷ bs) is =
    let byte = plain_byte b (and_parts (not (is_markup_byte b)) _ is.0).0 in
    ap (onward bs) (stays name begun b byte.0 byte.1) ∙ tag_read name begun bs is.1

-- ---- items

-- A reader gets by the HTML of items from one state to another.
pub record Leads (items : List Item) (before after : Reader) : Type 0 where
  pub leads : after_text before (rendered items) ≡ Some after

-- no item leads nowhere
nothing : {reader : Reader} → Leads [] reader reader
nothing = record { leads = refl }

-- an item and then others
step : {item : Item} {items : List Item} {first second third : Reader} → Reads (item_text item) first second → Leads items second third
    → Leads (item ∷ items) first third
step {item} {items} {first} a b = record {
  leads = read-append (item_text item) (rendered items) first ∙ ap (onward (rendered items)) a.reads ∙ b.leads;
}

-- some items and then others
joined : {xs ys : List Item} {first second third : Reader} → Leads xs first second → Leads ys second third → Leads (xs ++ ys) first third
joined {xs} {ys} {first} a b = record {
  leads = ap (after_text first) (flat_map-append item_text xs ys) ∙ read-append (rendered xs) (rendered ys) first
      ∙ ap (onward (rendered ys)) a.leads ∙ b.leads;
}

-- the items of each line
each : (f : List ℕ → List Item) (reader : Reader) → ((line : List ℕ) → Leads (f line) reader reader) → (lines : List (List ℕ))
    → Leads (flat_map f lines) reader reader
each f reader nests [] = nothing
each f reader nests (line ∷ lines) = joined (nests line) (each f reader nests lines)

-- one item of each
mapped : {A : Type 0} (f : A → Item) (reader : Reader) → ((x : A) → Reads (item_text (f x)) reader reader) → (xs : List A)
    → Leads (map f xs) reader reader
mapped f reader nests [] = nothing
mapped f reader nests (x ∷ xs) = step (nests x) (mapped f reader nests xs)

-- a fixed text
fixed : (markup : Markup) {before after : Reader} → after_text before (markup_text markup) ≡ Some after
    → Reads (item_text (Fixed markup)) before after
fixed markup e = record { reads = e }

-- a text between its tags
shown : (kind : Kind) (text : List ℕ) {before after : Reader} {inner : List (List ℕ)} → after_text before (opening kind) ≡ Some (within inner)
    → after_text (within inner) (closing kind) ≡ Some after → Reads (item_text (Shown kind text)) before after
shown kind text {inner = inner} a b =
    let middle : Reads (escaped text) (within inner) (within inner) = record { reads = text_read inner (escaped text) (text_bytes text) } in
    let first : Reads (opening kind) _ (within inner) = record { reads = a } in
    both (both first middle) (record { reads = b })

-- a text in a tag
shown_at : (kind : Kind) (text : List ℕ) {before after : Reader} {name : List ℕ} {inner : List (List ℕ)}
    → after_text before (opening kind) ≡ Some (in_tag name inner) → after_text (in_tag name inner) (closing kind) ≡ Some after
    → Reads (item_text (Shown kind text)) before after
shown_at kind text {name = name} {inner} a b =
    let middle : Reads (escaped text) (in_tag name inner) (in_tag name inner) =
    record { reads = tag_read name inner (escaped text) (text_bytes text) } in
    let first : Reads (opening kind) _ (in_tag name inner) = record { reads = a } in
    both (both first middle) (record { reads = b })

-- ---- the head

-- the elements that the head of a page leaves begun
abbrev main : List (List ℕ)
main = codes "main" ∷ codes "body" ∷ codes "html" ∷ []

-- the elements that the style leaves begun
abbrev styled : List (List ℕ)
styled = codes "style" ∷ codes "head" ∷ codes "html" ∷ []

rule_nests : (process : List ℕ) → Leads (rule_items process) (within styled) (within styled)
rule_nests process = step (shown RuleAddress process refl refl) (step (shown RuleCaller process refl refl) nothing)

style_nests : (title : List ℕ) (processes : List (List ℕ)) → Leads (style_items title processes) (within []) (within styled)
style_nests title processes =
    step (fixed Begin refl) (step (shown Title title refl refl) (step (fixed Style refl)
    (each rule_items (within styled) rule_nests processes)))

head_nests : (title name version : List ℕ) (output : List (List ℕ)) → Leads (head_items title name version output) (within styled) (within main)
head_nests title name version output =
    let replies = filter is_reply output in
    step (fixed EndStyle refl) (step (shown MainTitle title refl refl) (step (shown FileName name refl refl)
    (step (shown Calls (decimal (length replies)) refl refl)
    (step (shown Refusals (decimal (length (filter is_refused replies))) refl refl)
    (step (shown Denials (decimal (length (filter is_denied (filter is_raw_call output)))) refl refl)
    (step (shown Version version refl refl) (step (fixed EndHead refl) nothing)))))))

-- ---- the users and groups

declared_nests : (s : List (List ℕ)) (words : List (List ℕ)) → Leads (declared_items words) (within s) (within s)
declared_nests s [] = nothing
declared_nests s (word ∷ []) = nothing
declared_nests s (word ∷ name ∷ rest) =
    let P : List Item → Type 0 = λ items. Leads items (within s) (within s) in
    by_if (bytes_eq word (codes "user")) P (step (shown UserName name refl refl) nothing)
    (by_if (bytes_eq word (codes "group")) P
    (step (shown GroupName name refl refl) (mapped group_member_item (within s) (λ member. shown MemberName member refl refl) rest)) nothing)

who_nests : (s : List (List ℕ)) (script : List (List ℕ)) → Leads (who_items script) (within s) (within s)
who_nests s script =
    let inner = codes "p" ∷ codes "section" ∷ s in
    step (fixed BeginWho refl)
    (joined (each (λ line. declared_items (words_of line)) (within inner) (λ line. declared_nests inner (words_of line)) script)
    (step (fixed EndWho refl) nothing))

-- ---- the session

prose_nests : (s : List (List ℕ)) (text : List ℕ) → Leads (prose_items text) (within s) (within s)
prose_nests s [] = nothing
prose_nests s (b ∷ bs) =
    let P : List Item → Type 0 = λ items. Leads items (within s) (within s) in
    by_if (bytes_eq (split_word (b ∷ bs)).0 (codes "#")) P (step (shown Heading (after_word (b ∷ bs)) refl refl) nothing)
    (step (shown Prose (b ∷ bs) refl refl) nothing)

note_nests : (s : List (List ℕ)) (reply line : List ℕ) → Leads (note_items reply line) (within s) (within s)
note_nests s reply line =
    let P : List Item → Type 0 = λ items. Leads items (within s) (within s) in
    let text = after_word line in
    by_if (bytes_eq (split_word line).0 (codes "#=")) P
    (by_if (bytes_eq text (after_word reply)) (λ (kind : Kind). P (Shown kind text ∷ []))
    (step (shown ClaimMet text refl refl) nothing) (step (shown ClaimMissed text refl refl) nothing))
    (by_if (bytes_eq (split_word line).0 (codes "#")) P (prose_nests s text)
    (by_if (has_mark 35 line) P (step (shown Mark line refl refl) nothing) nothing))

call_nests : (s : List (List ℕ)) (call : List ℕ) → Leads (shown_call call) (within s) (within s)
call_nests s call =
    by_if (is_login call) (λ (items : List Item). Leads items (within s) (within s))
    (step (shown LoginBy (split_word call).0 refl refl) (step (shown LoginAs (split_word (after_word (after_word call))).0 refl refl) nothing))
    (step (shown Call call refl refl) nothing)

answered_nests : (s : List (List ℕ)) (script : List (List ℕ)) (reply : List ℕ) (reasons : List (List ℕ))
    → Leads (call_items script reply reasons) (within s) (within s)
answered_nests s script reply reasons =
    let answer : Leads (Shown (reply_kind reply) (after_word reply) ∷ []) (within s) (within s) =
    by_if (is_refused reply) (λ (kind : Kind). Leads (Shown kind (after_word reply) ∷ []) (within s) (within s))
    (step (shown Refusal (after_word reply) refl refl) nothing) (step (shown Reply (after_word reply) refl refl) nothing) in
    step (shown LineNumber (split_word reply).0 refl refl)
    (joined (joined (call_nests s (call_on script reply)) answer)
    (mapped reason_item (within s) (λ line. shown Reason (after_word line) refl refl) reasons))

raw_nests : (s : List (List ℕ)) (line : List ℕ) → Reads (item_text (raw_item line)) (within s) (within s)
raw_nests s line =
    let P : Item → Type 0 = λ item. Reads (item_text item) (within s) (within s) in
    by_if (hides_bytes line) P (shown HiddenBytes (at_bytes line).0 refl refl)
    (by_if (is_denied line) (λ (kind : Kind). P (Shown kind line)) (shown DeniedCall line refl refl) (shown RawCall line refl refl))

why_nests : (s : List (List ℕ)) (line : List ℕ) → Reads (item_text (why_item line)) (within s) (within s)
why_nests s line = shown Explanation line refl refl

-- a reader in what is behind a call
abbrev behind : List (List ℕ) → Reader
behind s = within (codes "div" ∷ codes "details" ∷ s)

-- items leave a reader where it was, in any elements
abbrev NestAnywhere : List Item → Type 0
NestAnywhere items = (s : List (List ℕ)) → Leads items (within s) (within s)

framed_nests : (s : List (List ℕ)) (folds : Bool) (by number : List ℕ) (call : List Item) → NestAnywhere call
    → (raw_calls explanations : List (List ℕ)) → Leads (framed_items folds by number call raw_calls explanations) (within s) (within s)
framed_nests s folds by number call nests raw_calls explanations = cases raw_calls explanations
  where
    opened : (raw_calls explanations : List (List ℕ))
        → Leads (Shown (call_kind folds) by ∷ Shown LineId number ∷ Fixed BeginSummary ∷ call ++ kernel_items raw_calls explanations)
        (within s) (within s)
    opened raw_calls explanations =
        step (by_if folds (λ kind. Reads (item_text (Shown kind by)) (within s) (in_tag (codes "details") s)) (shown_at SetUpBy by refl refl)
        (shown_at CallBy by refl refl)) (step (shown_at LineId number refl refl) (step (fixed BeginSummary refl)
        (joined (nests (codes "summary" ∷ codes "details" ∷ s)) (step (fixed BeginBehind refl)
        (joined (joined (mapped raw_item (behind s) (raw_nests (codes "div" ∷ codes "details" ∷ s)) raw_calls)
        (mapped why_item (behind s) (why_nests (codes "div" ∷ codes "details" ∷ s)) explanations))
        (step (fixed EndCall refl) nothing))))))

    cases : (raw_calls explanations : List (List ℕ)) → Leads (framed_items folds by number call raw_calls explanations) (within s) (within s)
    cases [] [] =
        step (by_if folds (λ kind. Reads (item_text (Shown kind by)) (within s) (in_tag (codes "div") s)) (shown_at BareSetUpBy by refl refl)
        (shown_at BareBy by refl refl)) (step (shown_at LineId number refl refl)
        (joined (nests (codes "div" ∷ s)) (step (fixed EndBare refl) nothing)))
    cases [] (line ∷ explanations) = opened [] (line ∷ explanations)
    cases (line ∷ raw_calls) explanations = opened (line ∷ raw_calls) explanations

turns_nest : (s : List (List ℕ)) (folded : ℕ) (script : List (List ℕ)) (before : List ℕ) (replies : List (List ℕ)) (marked : Marked)
    → Leads (turns_from folded script before replies marked) (within s) (within s)
turns_nest s folded script before [] marked =
    let notes = each (note_items before) (within s) (note_nests s before) (drop (line_number before) script) in
    joined (joined notes (each other_call_items (within s) (other_call s) marked.raw_calls))
    (each other_why_items (within s) (other_why s) marked.explanations)
  where
    other_call : (s : List (List ℕ)) (line : List ℕ) → Leads (other_call_items line) (within s) (within s)
    other_call s line =
        step (fixed BeginOther refl) (step (shown OtherLine (mark_number line) refl refl) (step (fixed BeginBehind refl)
        (step (raw_nests (codes "div" ∷ codes "details" ∷ s) line) (step (fixed EndCall refl) nothing))))

    other_why : (s : List (List ℕ)) (line : List ℕ) → Leads (other_why_items line) (within s) (within s)
    other_why s line =
        step (fixed BeginOther refl) (step (shown OtherLine (mark_number line) refl refl) (step (fixed BeginBehind refl)
        (step (why_nests (codes "div" ∷ codes "details" ∷ s) line) (step (fixed EndCall refl) nothing))))
turns_nest s folded script before (reply ∷ replies) marked =
    let own = own_marked (split_word reply).0 marked in
    joined
    (joined (each (note_items before) (within s) (note_nests s before) (lines_between script before reply))
    (framed_nests s (nat_lt 0 folded) (caller script reply) (split_word reply).0 (call_items script reply own.reasons)
    (λ inner. answered_nests inner script reply own.reasons) own.raw_calls own.explanations))
    (turns_nest s (folded - 1) script reply replies (later_marked (split_word reply).0 marked))

link_nests : (s : List (List ℕ)) (process : List ℕ) → Leads (link_items process) (within s) (within s)
link_nests s process =
    step (shown_at LinkTarget process refl refl) (step (shown_at LinkAddress process refl refl) (step (shown LinkName process refl refl) nothing))

set_up_link_nests : (s : List (List ℕ)) (number : ℕ) → Leads (set_up_link number) (within s) (within s)
set_up_link_nests s number =
    by_if (nat_lt 0 number) (λ (items : List Item). Leads items (within s) (within s))
    (step (shown SetUpCalls (decimal number) refl refl) nothing) nothing

session_nests : (s : List (List ℕ)) (script replies : List (List ℕ)) (marked : Marked)
    → Leads (begin_items (callers script replies) ++ calls_items script replies marked) (within s) (within s)
session_nests s script replies marked =
    let inner = codes "section" ∷ s in
    let boot = taken_own (codes "0") marked.raw_calls in
    let number = folded_count script replies in
    joined (step (fixed BeginSession refl) (each link_items (within inner) (link_nests inner) (callers script replies)))
    (joined
    (joined
    (joined
    (step (fixed BeginBoot refl) (step (shown OtherLine (codes "0") refl refl) (step (fixed BeginBehind refl)
    (joined (mapped raw_item (behind inner) (raw_nests (codes "div" ∷ codes "details" ∷ inner)) boot) (step (fixed EndCall refl) nothing)))))
    (set_up_link_nests inner number))
    (turns_nest inner number script [] replies (record marked { raw_calls = past_own (codes "0") marked.raw_calls })))
    (step (fixed EndSession refl) nothing))

-- ---- the files

-- the elements around the rows of the table
abbrev rows : List (List ℕ) → List (List ℕ)
rows s = codes "tbody" ∷ codes "table" ∷ codes "div" ∷ codes "section" ∷ s

-- the elements around the heads of the columns
abbrev heads : List (List ℕ) → List (List ℕ)
heads s = codes "tr" ∷ codes "thead" ∷ codes "table" ∷ codes "div" ∷ codes "section" ∷ s

columns_nest : (s : List (List ℕ)) (flags : List Bool) (cells : List (List ℕ))
    → Leads (column_items flags cells) (within (heads s)) (within (rows s))
columns_nest s flags [] = step (fixed EndColumns refl) nothing
columns_nest s flags (cell ∷ cells) =
    step
    (by_if (first_flag flags) (λ (kind : Kind). Reads (item_text (Shown kind (process_of cell))) (within (heads s)) (within (heads s)))
    (shown JobColumn (process_of cell) refl refl) (shown Column (process_of cell) refl refl))
    (columns_nest s (later_flags flags) cells)

right_nests : (s : List (List ℕ)) (letter : ℕ) → Reads (item_text (right_item letter)) (within s) (within s)
right_nests s letter =
    by_if (letter == 45) (λ (kind : Kind). Reads (item_text (Shown kind (letter ∷ []))) (within s) (within s))
    (shown Withheld (letter ∷ []) refl refl) (shown Granted (letter ∷ []) refl refl)

cells_nest : (s : List (List ℕ)) (flags : List Bool) (cells : List (List ℕ))
    → Leads (cells_items flags cells) (within (codes "tr" ∷ s)) (within s)
cells_nest s flags [] = step (fixed EndRow refl) nothing
cells_nest s flags (cell ∷ cells) =
    let inner = codes "td" ∷ codes "tr" ∷ s in
    joined
    (step
    (by_if (first_flag flags) (λ (kind : Kind). Reads (item_text (Shown kind (process_of cell))) (within (codes "tr" ∷ s)) (within inner))
    (shown JobProcess (process_of cell) refl refl) (shown Process (process_of cell) refl refl))
    (joined (mapped right_item (within inner) (right_nests inner) (unwrap_or (split_at_first 58 cell).1 [])) (step (fixed EndCell refl) nothing)))
    (cells_nest s (later_flags flags) cells)

stat_nests : (s : List (List ℕ)) (word : List ℕ) → Reads (item_text (stat_item word)) (within s) (within s)
stat_nests s word = shown Stat word refl refl

row_nests : (s : List (List ℕ)) (flags : List Bool) (words : List (List ℕ)) → Leads (row_items flags words) (within s) (within s)
row_nests s flags (path ∷ kind ∷ owner ∷ mode ∷ cells) =
    let inner = codes "tr" ∷ s in
    step (fixed BeginRow refl) (step (shown Path path refl refl) (step (stat_nests inner kind) (step (stat_nests inner owner)
    (step (stat_nests inner mode) (cells_nest s flags cells)))))
row_nests s flags [] = step (fixed BeginRow refl) (step (fixed EndRow refl) nothing)
row_nests s flags (a ∷ []) = step (fixed BeginRow refl) (step (stat_nests (codes "tr" ∷ s) a) (step (fixed EndRow refl) nothing))
row_nests s flags (a ∷ b ∷ []) =
    step (fixed BeginRow refl) (step (stat_nests (codes "tr" ∷ s) a) (step (stat_nests (codes "tr" ∷ s) b) (step (fixed EndRow refl) nothing)))
row_nests s flags (a ∷ b ∷ c ∷ []) =
    step (fixed BeginRow refl) (step (stat_nests (codes "tr" ∷ s) a) (step (stat_nests (codes "tr" ∷ s) b)
    (step (stat_nests (codes "tr" ∷ s) c) (step (fixed EndRow refl) nothing))))

files_nest : (s : List (List ℕ)) (jobs runners lines : List (List ℕ)) → Leads (files_items jobs runners lines) (within s) (within s)
files_nest s jobs runners lines =
    let flags = job_columns jobs lines in
    let users = mapped user_item (within (heads s)) (λ word. shown ColumnUser (unwrap_or (split_at_first 58 word).1 []) refl refl) runners in
    let table = each (line_items flags) (within (rows s)) (λ line. row_nests (rows s) flags (words_of line)) lines in
    step (fixed BeginFiles refl) (joined users (step (fixed EndUsers refl)
    (joined (joined (columns_nest s flags (first_cells lines)) table) (step (fixed EndFiles refl) nothing))))

-- ---- the secrets, and how each is revealed or changed

member_nests : (s : List (List ℕ)) (word : List ℕ) → Reads (item_text (member_item word)) (within s) (within s)
member_nests s word =
    let text = unwrap_or (split_at_first 58 word).1 [] in
    let role = (split_at_first 58 word).0 in
    let P : Kind → Type 0 = λ kind. Reads (item_text (Shown kind text)) (within s) (within s) in
    by_if (bytes_eq role (codes "trusted")) P (shown Trusted text refl refl)
    (by_if (bytes_eq role (codes "confined")) P (shown Confined text refl refl) (shown LoginReader text refl refl))

secret_nests : (s : List (List ℕ)) (words : List (List ℕ)) → Leads (secret_items words) (within s) (within s)
secret_nests s [] = step (fixed BeginSecret refl) (step (fixed EndSecret refl) nothing)
secret_nests s (path ∷ members) =
    let inner = codes "p" ∷ s in
    step (fixed BeginSecret refl) (step (shown Secret path refl refl)
    (joined (mapped member_item (within inner) (member_nests inner) members) (step (fixed EndSecret refl) nothing)))

outsider_nests : (s : List (List ℕ)) (members : List (List ℕ)) (runner : List ℕ) → Leads (outsider_items members runner) (within s) (within s)
outsider_nests s members runner =
    by_if (list_any (is_insider (process_of runner)) members) (λ (items : List Item). Leads items (within s) (within s)) nothing
    (step (shown Outsider (process_of runner) refl refl) nothing)

condition_nests : (s : List (List ℕ)) (members : List (List ℕ))
    → Reads (item_text (Fixed (condition_of members))) (within (codes "span" ∷ s)) (within s)
condition_nests s members =
    let P : Markup → Type 0 = λ markup. Reads (item_text (Fixed markup)) (within (codes "span" ∷ s)) (within s) in
    by_if (list_any (has_role (codes "trusted")) members) P (fixed UnlessCalled refl) (fixed UnlessLogin refl)

reply_nests : (s : List (List ℕ)) (script : List (List ℕ)) (path reply : List ℕ) → Leads (reply_items script path reply) (within s) (within s)
reply_nests s script path reply =
    let process = caller script reply in
    let number = (split_word reply).0 in
    let words = after_word (call_on script reply) in
    let word = (split_word words).0 in
    let P : Option Kind → Type 0 = λ used. Leads (use_items used process number) (within s) (within s) in
    let line : Leads (Shown UseAddress number ∷ Shown UseLine number ∷ []) (within (codes "span" ∷ s)) (within s) =
    step (shown_at UseAddress number refl refl) (step (shown UseLine number refl refl) nothing) in
    by_if (is_refused reply || not (bytes_eq (split_word (after_word words)).0 path)) P nothing
    (by_if (bytes_eq word (codes "read")) P (step (shown ReadBy process refl refl) line)
    (by_if (bytes_eq word (codes "write") || bytes_eq word (codes "append")) P (step (shown WrittenBy process refl refl) line) nothing))

followed_nests : (s : List (List ℕ)) (script replies runners words : List (List ℕ))
    → Leads (followed_items script replies runners words) (within s) (within s)
followed_nests s script replies runners [] = secret_nests s []
followed_nests s script replies runners (path ∷ members) =
    let inner = codes "p" ∷ s in
    let file : Leads (Fixed BeginSecret ∷ Shown Secret path ∷ map member_item members) (within s) (within inner) =
    step (fixed BeginSecret refl) (step (shown Secret path refl refl) (mapped member_item (within inner) (member_nests inner) members)) in
    let outside = each (outsider_items members) (within inner) (outsider_nests inner members) runners in
    let uses = each (reply_items script path) (within inner) (reply_nests inner script path) replies in
    let sentence : Leads (Fixed BeginLaw ∷ Shown Secret path ∷ Fixed (condition_of members) ∷ flat_map (reply_items script path) replies)
    (within inner) (within inner) =
    step (fixed BeginLaw refl) (step (shown Secret path refl refl) (step (condition_nests inner members) uses)) in
    joined (joined (joined file outside) sentence) (step (fixed EndSecret refl) nothing)

lines_nest : (s : List (List ℕ)) (script replies runners files : List (List ℕ))
    → Leads (lines_items script replies runners files) (within s) (within s)
lines_nest s script replies runners files =
    by_if (are_followed files runners) (λ (items : List Item). Leads items (within s) (within s))
    (each (λ line. followed_items script replies runners (words_of line)) (within s)
    (λ line. followed_nests s script replies runners (words_of line)) files)
    (each (λ line. secret_items (words_of line)) (within s) (λ line. secret_nests s (words_of line)) files)

note_on_nests : (s : List (List ℕ)) (files : List (List ℕ)) → Reads (item_text (Fixed (note_on files))) (within s) (within s)
note_on_nests s [] = fixed NoSecrets refl
note_on_nests s (file ∷ files) = fixed OnSecrets refl

on_titles_nest : (s : List (List ℕ)) (files titles : List (List ℕ)) → Leads (note_on_titles files titles) (within s) (within s)
on_titles_nest s [] titles = nothing
on_titles_nest s (file ∷ files) [] = step (fixed NoTitles refl) nothing
on_titles_nest s (file ∷ files) (title ∷ titles) = step (fixed OnTitles refl) nothing

title_nests : (s : List (List ℕ)) (line : List ℕ) → Reads (item_text (title_item line)) (within s) (within s)
title_nests s line =
    by_if (has_mark 32 line) (λ (kind : Kind). Reads (item_text (Shown kind line)) (within s) (within s))
    (shown LeakTitle line refl refl) (shown LeakPath line refl refl)

secrets_nest : (s : List (List ℕ)) (script replies lines titles : List (List ℕ))
    → Leads (secrets_items script replies lines titles) (within s) (within s)
secrets_nest s script replies lines titles =
    let inner = codes "section" ∷ s in
    let files = without_first lines in
    step (fixed BeginSecrets refl) (step (note_on_nests inner files)
    (joined (joined (lines_nest inner script replies (runners_of lines) files) (on_titles_nest inner files titles))
    (joined (mapped title_item (within inner) (title_nests inner) titles) (step (fixed EndSecrets refl) nothing))))

-- ---- the flows

flows_nest : (s : List (List ℕ)) (lines : List (List ℕ)) → Leads (flows_items lines) (within s) (within s)
flows_nest s lines =
    step (fixed BeginFlows refl) (step (fixed OnFlows refl)
    (joined (mapped flow_item (within (codes "section" ∷ s)) (λ line. shown Flow line refl refl) lines) (step (fixed EndFlows refl) nothing)))

-- ---- the drawing

edge_nests : (s : List (List ℕ)) (path : List ℕ) (j i : ℕ) (cell : List ℕ) (reads writes : Bool)
    → Leads (edge (edge_kind reads writes) path j i cell) (within s) (within s)
edge_nests s path j i cell reads writes = by reads writes
  where
    ends : Leads (Shown EdgeEnd (decimal (file_top j + half_height)) ∷ Shown EdgeProcess (process_of cell) ∷ Shown EdgeFile path ∷ [])
        (in_tag (codes "line") s) (within s)
    ends =
        step (shown_at EdgeEnd (decimal (file_top j + half_height)) refl refl) (step (shown EdgeProcess (process_of cell) refl refl)
        (step (shown EdgeFile path refl refl) nothing))

    by : (reads writes : Bool) → Leads (edge (edge_kind reads writes) path j i cell) (within s) (within s)
    by true true = step (shown_at BothEdge (decimal (process_top i + half_height)) refl refl) ends
    by true false = step (shown_at ReadEdge (decimal (process_top i + half_height)) refl refl) ends
    by false true = step (shown_at WriteEdge (decimal (process_top i + half_height)) refl refl) ends
    by false false = nothing

row_edges_nest : (s : List (List ℕ)) (path : List ℕ) (j i : ℕ) (cells : List (List ℕ))
    → Leads (row_edges path j i cells) (within s) (within s)
row_edges_nest s path j i [] = nothing
row_edges_nest s path j i (cell ∷ cells) =
    joined (edge_nests s path j i cell (has_letter 114 cell) (has_letter 119 cell)) (row_edges_nest s path j (i + 1) cells)

edges_nest : (s : List (List ℕ)) (j : ℕ) (lines : List (List ℕ)) → Leads (table_edges j lines) (within s) (within s)
edges_nest s j [] = nothing
edges_nest s j (line ∷ lines) = joined (row_edges_nest s (line_path line) j 0 (line_cells line)) (edges_nest s (j + 1) lines)

processes_nest : (s : List (List ℕ)) (i : ℕ) (cells : List (List ℕ)) → Leads (process_nodes i cells) (within s) (within s)
processes_nest s i [] = nothing
processes_nest s i (cell ∷ cells) =
    step (shown_at ProcessNode (decimal (process_top i)) refl refl) (step (shown NodeName (process_of cell) refl refl)
    (processes_nest s (i + 1) cells))

nodes_nest : (s : List (List ℕ)) (j : ℕ) (lines : List (List ℕ)) → Leads (file_nodes j lines) (within s) (within s)
nodes_nest s j [] = nothing
nodes_nest s j (line ∷ lines) =
    step (shown_at FileNode (decimal (file_top j)) refl refl) (step (shown NodeName (line_path line) refl refl) (nodes_nest s (j + 1) lines))

process_bands_nest : (s : List (List ℕ)) (job : List ℕ) (i : ℕ) (cells : List (List ℕ))
    → Leads (process_bands job i cells) (within s) (within s)
process_bands_nest s job i [] = nothing
process_bands_nest s job i (cell ∷ cells) =
    joined
    (by_if (is_within job (process_of cell)) (λ (items : List Item). Leads items (within s) (within s))
    (step (shown_at ProcessBand (decimal (process_top i)) refl refl) nothing) nothing)
    (process_bands_nest s job (i + 1) cells)

file_bands_nest : (s : List (List ℕ)) (job : List ℕ) (j : ℕ) (lines : List (List ℕ)) → Leads (file_bands job j lines) (within s) (within s)
file_bands_nest s job j [] = nothing
file_bands_nest s job j (line ∷ lines) =
    joined
    (by_if (list_any (changes_by job) (line_cells line)) (λ (items : List Item). Leads items (within s) (within s))
    (step (shown_at FileBand (decimal (file_top j)) refl refl) nothing) nothing)
    (file_bands_nest s job (j + 1) lines)

-- the elements around what a drawing shows
abbrev drawing : List (List ℕ)
drawing = codes "svg" ∷ codes "div" ∷ codes "section" ∷ main

drawn_nests : (jobs lines : List (List ℕ)) → Leads (drawn_items jobs lines) (within main) (within [])
drawn_nests jobs lines =
    let cells = first_cells lines in
    let bands = each (bands_of cells lines) (within drawing)
    (λ job. joined (process_bands_nest drawing job 0 cells) (file_bands_nest drawing job 0 lines)) jobs in
    let graph = joined (joined (joined (edges_nest drawing 0 lines) (processes_nest drawing 0 cells)) (nodes_nest drawing 0 lines))
    (step (fixed EndDrawing refl) (step (fixed End refl) nothing)) in
    step (fixed BeginLabels refl) (step (fixed BeginDrawing refl)
    (step (shown_at DrawnHeight (decimal (drawn_height (length cells) (length lines))) refl refl) (step (fixed Arrows refl) (joined bands graph))))

undrawn_nests : Leads undrawn_items (within main) (within [])
undrawn_nests = step (fixed BeginLabels refl) (step (fixed NotDrawn refl) (step (fixed End refl) nothing))

drawing_nests : (script output lines : List (List ℕ)) → Leads (drawing_items script output lines) (within main) (within [])
drawing_nests script output lines =
    by_if (is_drawn lines) (λ (items : List Item). Leads items (within main) (within []))
    (drawn_nests (jobs_of script output) lines) undrawn_nests

-- ---- the page

-- each element of a page is ended in its turn
pub pages_nest : PagesNest
pages_nest sources =
    let script = lines_of sources.script in
    let output = lines_of sources.output in
    let title = title_of sources.name script in
    let head = joined
    (joined (style_nests title (callers script (filter is_reply output))) (head_nests title sources.name sources.version output))
    (who_nests main script) in
    let session = session_nests main script (filter is_reply output) (record {
      reasons = filter is_reason (lines_of sources.reasons);
      raw_calls = filter is_raw_call output;
      explanations = filter is_explanation output;
    }) in
    let kept = λ (items : List Item). Leads items (within main) (within main) in
    let files = by_if (is_long sources.table) kept (step (fixed FilesLeftOut refl) nothing)
    (files_nest main (jobs_of script output) (runners_of (lines_of sources.secrets)) (lines_of sources.table)) in
    let secrets = by_if (is_long sources.secrets) kept (step (fixed SecretsLeftOut refl) nothing)
    (secrets_nest main script (filter is_reply output) (lines_of sources.secrets) (lines_of sources.titles)) in
    let drawing = by_if (is_long sources.table) (λ (items : List Item). Leads items (within main) (within [])) undrawn_nests
    (drawing_nests script output (lines_of sources.table)) in
    let rights = joined (joined (joined files secrets) (flows_nest main (lines_of sources.flows))) drawing in
    (joined (joined head session) rights).leads
