-- Proves the goals of `Dir::insert` of src/directory.rt that the search leaves open.
use Rattle.std.proofs.Common.{◌≡◌, ◌<◌, ◌++◌, List, [], ℕ, take, drop, sym, ap, subst, ◌∙◌}
use Rattle.std.specs.FinMap as map
use Rattle.std.proofs.lemmas.List.{take_rest}
use Rattle.histar_layout.specs.Directory.{Entries, IsDirectory, entry_bytes}
use Rattle.histar_layout.specs.Spelled.{entries_of}
use Rattle.histar_layout.proofs.Spans.{entry_made}
use Rattle.histar_layout.proofs.Spellings.{directory_spelled, is_spelled}
use Rattle.histar_layout.proofs.directory.Dir.insert.Given as given
use Rattle.histar_layout.proofs.directory.Dir.insert.Goals as goal

-- three pieces, one after the other
pieces : (empty first second third front made rest last : List ℕ) → empty ≡ [] → first ≡ empty ++ front
    → second ≡ first ++ made → third ≡ second ++ last → last ≡ rest → third ≡ (front ++ made) ++ rest
pieces empty first second third front made rest last a b c d e =
    d ∙ (λ i. (c ∙ ap (λ (t : List ℕ). t ++ made) (b ∙ ap (λ (t : List ℕ). t ++ front) a)) i ++ e i)

-- the bytes are the directory with the entry
with_entry : (g : given.Over) (c : goal.After-drop-self-inside g)
    → IsDirectory c.extend-2.new.list.items
    (map.insert (entries_of c.self.inside.bytes.items) c.args.name.now c.args.target)
with_entry g c =
    let old = c.as_slice-old.result.now in
    let dir = entries_of c.self.inside.bytes.items in
    let is : IsDirectory old dir = subst (λ (b : List ℕ). IsDirectory b dir) (sym c.as_slice-old.ensures.value) c.self.invariant in
    let room = subst (λ (d : Entries). map.len d < 64) (sym c.self.view_is) c.requires.room in
    entry_made old c.extend-2.new.list.items dir c.args.name.now c.args.target c.span_of-span.result.start
    c.span_of-span.result.end is (c.span_of-span.ensures dir is) room
    (c.in_ok-push_entry.ensures.entry c.requires.leads)
    (pieces _ _ _ c.extend-2.new.list.items (take c.span_of-span.result.start old)
    (entry_bytes (c.args.name.now, c.args.target)) (drop c.span_of-span.result.end old) _
    c.in_ok-bytes.ensures.items c.in_ok-extend.ensures.items c.in_ok-push_entry.ensures.written c.in_ok-extend-2.ensures.items
    (take_rest old c.span_of-span.result.end))

pub invariant_of-self : goal.invariant_of-self
invariant_of-self g c = is_spelled _ _ (with_entry g c)

pub returns-clause-ok : goal.returns-clause-ok
returns-clause-ok g c =
    directory_spelled _ _ (with_entry g c)
    ∙ ap (λ (dir : Entries). map.insert dir c.args.name.now c.args.target) c.self.view_is
