-- The links of an object, and those after a change.
use Rattle.std.proofs.Common.{◌≡◌, ℕ, Bool, true, false, ◌||◌, ◌&&◌, not, nat_eq, Option, None, Some, List, [], Result, Ok, Err, OnOk, OnErr, OnSome}
use Rattle.std.proofs.Common.{refl, sym, ap, ◌∙◌}
use Rattle.std.specs.Prelude.{option_map}
use Rattle.std.specs.Cmp.{nat_cmp_total, unsigned_tied}
use Rattle.std.specs.List.{IsDistinct}
use Rattle.std.specs.FinSet as set
use Rattle.std.specs.Ordering.{nat_cmp}
use mathlib.Core.Bool.{false≢true}
use Rattle.std.proofs.lemmas.List.{append-nil}
use Rattle.histar_object.specs.declared.objects.Kind.{Kind}
use Rattle.histar_object.specs.declared.objects.Kind.TheVariants.{Segment, Container, Thread, Gate}
use Rattle.histar_object.specs.declared.objects.Object.{Object}
use Rattle.histar_object.specs.Objects.{Numbers, Objects, put, changed_at, kind_linking, linking, kind_unlinking, unlinking, AppendsAll, kind_links}
use Rattle.histar_object.specs.Objects.{links_in, kind_is_container, is_container}
use Rattle.histar_object.proofs.Changes.{put_back, put_changed}

-- a fact that holds where an object is lent holds here
pub on_some : {A : Type 0} (r : Option A) (x : A) (P : Type 0) → r ≡ Some x → OnSome r P → P
on_some None x P e h = cc
on_some (Some y) x P e h = h

-- the empty set has no number
pub none_linked : (n : ℕ) → false ≡ set.contains (set.empty {R = nat_cmp}) n
none_linked n = sym (set.contains-empty nat_cmp n)

-- the empty set has no number, even with another test
none_linked_and : (b : Bool) (c : ℕ) → set.contains (set.empty {R = nat_cmp}) c ≡ (b && set.contains (set.empty {R = nat_cmp}) c)
none_linked_and true c = refl
none_linked_and false c = sym (none_linked c)

-- appending a set without numbers leaves a list
pub appends_none : (links : Numbers) (list : List ℕ) → ((n : ℕ) → false ≡ set.contains links n) → AppendsAll links list list
unfolding IsDistinct
appends_none links list none = record { added = []; is = sym (append-nil list); listed = record { members = none; once = tt } }

module _ {L : Type 0} where
  -- a missing object links nothing
  pub absent_links : (o : Option (Object L)) (n : ℕ) → None ≡ o → false ≡ set.contains (links_in o) n
  absent_links o n e = none_linked n ∙ ap (λ x. set.contains (links_in x) n) e

  -- an object that is no container links nothing
  pub kind_links_none : (k : Kind L) (n : ℕ) → kind_is_container k ≡ false → false ≡ set.contains (kind_links k) n
  kind_links_none (Segment bytes) n e = none_linked n
  kind_links_none (Container links) n e = absurd (false≢true (sym e))
  kind_links_none (Thread clearance) n e = none_linked n
  kind_links_none (Gate clearance entry) n e = none_linked n

  -- the links of a kind with one link less
  kind_unlinked_links : (k : Kind L) (n c : ℕ)
      → set.contains (kind_links (kind_unlinking n k)) c ≡ (not (nat_eq c n) && set.contains (kind_links k) c)
  kind_unlinked_links (Segment bytes) n c = none_linked_and _ c
  kind_unlinked_links (Container links) n c =
      set.contains-remove nat_cmp_total links n c ∙ ap (λ b. not b && set.contains links c) (unsigned_tied c n)
  kind_unlinked_links (Thread clearance) n c = none_linked_and _ c
  kind_unlinked_links (Gate clearance entry) n c = none_linked_and _ c

  -- the links of an object with one link less
  pub unlinked_links : (o : Option (Object L)) (n c : ℕ)
      → set.contains (links_in (option_map (unlinking n) o)) c ≡ (not (nat_eq c n) && set.contains (links_in o) c)
  unlinked_links None n c = none_linked_and _ c
  unlinked_links (Some o) n c = kind_unlinked_links o.kind n c

  -- the links of a container with one more link
  kind_linked_links : (k : Kind L) (n c : ℕ) → kind_is_container k ≡ true
      → set.contains (kind_links (kind_linking n k)) c ≡ (nat_eq c n || set.contains (kind_links k) c)
  kind_linked_links (Segment bytes) n c e = absurd (false≢true e)
  kind_linked_links (Container links) n c e = set.contains-insert nat_cmp_total links n c ∙ ap (λ b. b || set.contains links c) (unsigned_tied c n)
  kind_linked_links (Thread clearance) n c e = absurd (false≢true e)
  kind_linked_links (Gate clearance entry) n c e = absurd (false≢true e)

  -- the links of a container that is there with one more link
  pub linked_links : (o : Option (Object L)) (n c : ℕ) → is_container o ≡ true
      → set.contains (links_in (option_map (linking n) o)) c ≡ (nat_eq c n || set.contains (links_in o) c)
  linked_links None n c e = absurd (false≢true e)
  linked_links (Some o) n c e = kind_linked_links o.kind n c e

  module _ (objects : Objects L) (d n : ℕ) (o : Object L) (links : Numbers) (here : Some o ≡ objects d) (is : o.kind ≡ Container links) where
    -- a container whose links grew is the container that links one more
    grown : (new : Numbers) → new ≡ set.insert links n → record { label = o.label; kind = Container new } ≡ linking n o
    grown new e i = record { label = o.label; kind = (ap Container e ∙ sym (ap (kind_linking n) is)) i }

    -- a container whose links stayed is the same object
    same : (new : Numbers) → new ≡ links → record { label = o.label; kind = Container new } ≡ o
    same new e i = record { label = o.label; kind = (ap Container e ∙ sym is) i }

    -- where the links grew, the container links one more
    pub link_ok : {E : Type 0} (r : Result (Unit {0}) E) (new : Numbers) (after : Objects L)
        → OnOk r (new ≡ set.insert links n) → after ≡ put objects d (record { label = o.label; kind = Container new })
        → OnOk r (after ≡ changed_at objects d (linking n))
    link_ok (Ok u) new after ok e = e ∙ ap (put objects d) (grown new ok) ∙ put_changed objects d (linking n) o here
    link_ok (Err x) new after ok e = tt

    -- where they did not, nothing has changed
    pub link_err : {E : Type 0} (r : Result (Unit {0}) E) (new : Numbers) (after : Objects L) → OnErr r (new ≡ links)
        → after ≡ put objects d (record { label = o.label; kind = Container new }) → OnErr r (after ≡ objects)
    link_err (Ok u) new after err e = tt
    link_err (Err x) new after err e = e ∙ ap (put objects d) (same new err) ∙ put_back objects d o here

    -- a container whose links are one less is the container that links one less
    pub unlinked_there : (new : Numbers) (after : Objects L) → new ≡ set.remove links n
        → after ≡ put objects d (record { label = o.label; kind = Container new })
        → after ≡ changed_at objects d (unlinking n)
    unlinked_there new after less e =
        e
        ∙ ap (put objects d)
        (λ i. record { label = o.label; kind = (ap Container less ∙ sym (ap (kind_unlinking n) is)) i })
        ∙ put_changed objects d (unlinking n) o here

  kind_not_linked : (n : ℕ) (k : Kind L) → kind_is_container k ≡ false → k ≡ kind_linking n k
  kind_not_linked n (Segment bytes) e = refl
  kind_not_linked n (Container links) e = absurd (false≢true (sym e))
  kind_not_linked n (Thread clearance) e = refl
  kind_not_linked n (Gate clearance entry) e = refl

  -- an object that is no container stays where it was to link one more
  pub linked_not : (objects after : Objects L) (d n : ℕ) (o : Object L) → Some o ≡ objects d
      → kind_is_container o.kind ≡ false → after ≡ put objects d o → after ≡ changed_at objects d (linking n)
  linked_not objects after d n o here other e =
      e ∙ ap (put objects d) (λ i. record { label = o.label; kind = kind_not_linked n o.kind other i })
      ∙ put_changed objects d (linking n) o here

  kind_not_unlinked : (n : ℕ) (k : Kind L) → kind_is_container k ≡ false → k ≡ kind_unlinking n k
  kind_not_unlinked n (Segment bytes) e = refl
  kind_not_unlinked n (Container links) e = absurd (false≢true (sym e))
  kind_not_unlinked n (Thread clearance) e = refl
  kind_not_unlinked n (Gate clearance entry) e = refl

  -- and stays where it was to link one less
  pub unlinked_not : (objects after : Objects L) (d n : ℕ) (o : Object L) → Some o ≡ objects d
      → kind_is_container o.kind ≡ false → after ≡ put objects d o → after ≡ changed_at objects d (unlinking n)
  unlinked_not objects after d n o here other e =
      e ∙ ap (put objects d) (λ i. record { label = o.label; kind = kind_not_unlinked n o.kind other i })
      ∙ put_changed objects d (unlinking n) o here
