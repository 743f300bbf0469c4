-- Words and lines that are shown one by one.
use Rattle.std.proofs.Common.{◌≡◌, ◌<◌, ℕ, List, [], ◌∷◌, ◌++◌, ◌∙◌, ap, append-nil, arith, length, map, refl, sym}
use Rattle.std.specs.Borrow.{Bor}
use Rattle.std.specs.List.{flat_map}
use Rattle.histar_page.specs.declared.views.View.{View}
use Rattle.histar_page.specs.declared.views.View.TheVariants.{RawCalls, Explanations, Reasons, GroupMembers, OtherCalls, OtherExplanations}
use Rattle.histar_page.specs.declared.views.View.TheVariants.{Users, Stats, Members, Links, Rules}
use Rattle.histar_page.specs.Texts.{texts}
use Rattle.histar_page.specs.Items.{Item}
use Rattle.histar_page.specs.Session.{raw_item, why_item}
use Rattle.histar_page.specs.Story.{reason_item}
use Rattle.histar_page.specs.Who.{group_member_item}
use Rattle.histar_page.specs.Files.{stat_item, user_item}
use Rattle.histar_page.specs.Secrets.{member_item}
use Rattle.histar_page.specs.Views.{view_items, views}

-- one item for each text
one_each : (f : List ℕ → Item) (lines : List (List ℕ)) → flat_map (λ line. f line ∷ []) lines ≡ map f lines
one_each f [] = refl
one_each f (line ∷ lines) = ap (λ items. f line ∷ items) (one_each f lines)

-- the items of each are the items of all
pub views_are : (view : View) (lines : List (List ℕ)) → flat_map (view_items view) lines ≡ views view lines
views_are RawCalls lines = one_each raw_item lines
views_are Explanations lines = one_each why_item lines
views_are Reasons lines = one_each reason_item lines
views_are GroupMembers lines = one_each group_member_item lines
views_are OtherCalls lines = refl
views_are OtherExplanations lines = refl
views_are Users lines = one_each user_item lines
views_are Stats lines = one_each stat_item lines
views_are Members lines = one_each member_item lines
views_are Links lines = refl
views_are Rules lines = refl

-- all is shown once no line is left
pub all_shown : (view : View) (rest : List (Bor (List ℕ))) {items all : List Item} → length rest < 1
    → items ++ flat_map (view_items view) (texts rest) ≡ all → items ≡ all
all_shown view [] {items} none h = sym (append-nil items) ∙ h
all_shown view (line ∷ rest) none h = absurd (omega arith)
