-- Where a path leads, with the rights of a user there, name by name.
use Rattle.std.specs.Prelude.{◌≡◌, ℕ, ◌≤◌, ◌<◌, [], ◌∷◌, length, get_or, Option, None, Some, MatchOption}
use Rattle.std.proofs.Common.{arith, refl, sym, ap, ◌∙◌, subst}
use Rattle.std.proofs.lemmas.Option.{same_Some}
use Rattle.histar_flat.specs.Words.{Name, Path}
use Rattle.histar_flat.specs.Accounts.{Accounts}
use Rattle.histar_level.specs.Levels.{Levels}
use Rattle.histar_object.specs.Objects.{label_there}
use Rattle.histar_object.specs.State.{State}
use Rattle.histar_layout.specs.ClassLabels.{FindsClass, IsClassLabel}
use Rattle.histar_layout.specs.Listing.{object_of}
use Rattle.histar_layout.specs.declared.class.Class.{Class}
use Rattle.histar_layout.specs.declared.entry.Target.{Target}
use Rattle.histar_layout.specs.declared.entry.Target.TheVariants.{Directory}
use Rattle.histar_layout.proofs.ClassLabels.{one_class}
use Rattle.histar_programs.specs.declared.roots.Roots.{Roots}
use Rattle.histar_readout.specs.Resolve.{LeadsTo}
use Rattle.histar_readout.proofs.OneTarget.{paths_lead_to_one_target}
use Rattle.histar_rights.specs.declared.users.UserRights.{UserRights}
use Rattle.histar_cells.specs.declared.by_user.UserSpot.{UserSpot}
use Rattle.histar_cells.specs.ByClass.{from_above, user_below}
use Rattle.histar_cells.specs.ByUser.{FindsClassAt, FindsNarrowed, FindsUserSpot, HasRightsAt, IsOfClass, IsOfNoClass, NarrowsTo}
use Rattle.histar_cells.specs.OnePath.{FindsEntry, Lists}
use Rattle.histar_cells.proofs.Spots.{led_on, listed_on, names_above, parts}

module _ (users : Accounts) (s : State) where
  -- the class of an object's label is that of the object
  pub class_found : (o : ℕ) (label : Levels) → Some label ≡ label_there (s.objects o) → (found : Option Class)
      → FindsClass users label found
      → FindsClassAt users s o found
  class_found o label is None none = λ class has.
      none class (subst (IsClassLabel users class) (same_Some has.label label (sym has.label_is ∙ sym is)) has.of_class)
  class_found o label is (Some class) of = record { label = label; label_is = sym is; of_class = of }

  -- an object of which none was found is of none
  pub no_class : (o object : ℕ) (found : Option Class) → o ≡ object → found ≡ None → FindsClassAt users s o found
      → IsOfNoClass users s object
  no_class o object found same none finds = subst (λ (x : ℕ × Option Class). FindsClassAt users s x.0 x.1) (λ i. (same i, none i)) finds

  -- an object is of one class at most
  pub one_class_at : (o : ℕ) (a b : Class) → IsOfClass users s o a → IsOfClass users s o b → a ≡ b
  one_class_at o a b x y =
      one_class users x.label a b x.of_class
      (subst (IsClassLabel users b) (same_Some y.label x.label (sym y.label_is ∙ x.label_is)) y.of_class)

  module _ (roots : Roots) where
    -- with the same rights at its directory, a user has one at a path
    one_narrowed : (q : Path) (above a b : UserRights) → NarrowsTo users s roots q above a → NarrowsTo users s roots q above b → a ≡ b
    one_narrowed q above a b x y =
        let target : y.0 ≡ x.0 = paths_lead_to_one_target s roots q y.0 x.0 y.1 x.1 in
        let there : IsOfClass users s (object_of x.0) y.2.class =
        subst (λ (t : Target). IsOfClass users s (object_of t) y.2.class) target y.2.of_class in
        let class = one_class_at (object_of x.0) x.2.class y.2.class x.2.of_class there in
        x.2.rights ∙ ap (λ (c : Class). user_below users c above) class ∙ sym y.2.rights

    -- a path leads to a target, and what is found there is found at the path
    pub found_at : (q : Path) (above : UserRights) (target : Target) → LeadsTo s roots q target → (found : Option UserSpot)
        → FindsNarrowed users s target above found
        → MatchOption found ((there : UserRights) → NarrowsTo users s roots q above there → ⊥)
        (λ spot. LeadsTo s roots q spot.target × NarrowsTo users s roots q above spot.there)
    found_at q above target leads None none = λ there is.
        let same : is.0 ≡ target = paths_lead_to_one_target s roots q is.0 target is.1 leads in
        none is.2.class (subst (λ (t : Target). IsOfClass users s (object_of t) is.2.class) same is.2.of_class)
    found_at q above target leads (Some spot) is = (subst (LeadsTo s roots q) (sym is.0) leads, (target, leads, is.1))

    module _ (user : Name) where
      -- a user has one set of rights at a path
      pub one_set : (q : Path) (a b : UserRights) → HasRightsAt users s roots user q a → HasRightsAt users s roots user q b → a ≡ b
      one_set [] a b x y = one_narrowed [] (from_above user) a b x y
      one_set (name ∷ d) a b x y =
          one_narrowed (name ∷ d) x.0 a b x.2
          (subst (λ (above : UserRights). NarrowsTo users s roots (name ∷ d) above b) (one_set d y.0 x.0 y.1 x.1) y.2)

      module _ (q : Path) where
        -- at `/` the rights are those above it, narrowed
        pub slash_found : length q < 1 → (start : UserRights) → start ≡ from_above user → (found : Option UserSpot)
            → FindsNarrowed users s (Directory roots.slash.container roots.slash.listing) start found
            → FindsUserSpot users s roots user q found
        unfolding FindsUserSpot
        slash_found none start starts found start_is = by q none
          where
            is : FindsNarrowed users s (Directory roots.slash.container roots.slash.listing) (from_above user) found
            is = subst (λ (u : UserRights). FindsNarrowed users s (Directory roots.slash.container roots.slash.listing) u found) starts start_is

            at_slash : (found : Option UserSpot)
                → FindsNarrowed users s (Directory roots.slash.container roots.slash.listing) (from_above user) found
                → MatchOption found ((there : UserRights) → HasRightsAt users s roots user [] there → ⊥)
                (λ spot. LeadsTo s roots [] spot.target × HasRightsAt users s roots user [] spot.there)
            at_slash found is = found_at [] (from_above user) (Directory roots.slash.container roots.slash.listing) refl found is

            by : (p : Path) → length p < 1 → FindsUserSpot users s roots user p found
            by [] none = at_slash found is
            by (n ∷ d) none = absurd (omega arith)

        module _ (name : Name) (some : 1 ≤ length q) (first : name ≡ get_or q 0 name) where
          abbrev above : Path
          above = names_above q

          whole : (found : Option UserSpot) → FindsUserSpot users s roots user (name ∷ above) found → FindsUserSpot users s roots user q found
          whole found is = subst (λ (p : Path). FindsUserSpot users s roots user p found) (parts q name some first) is

          -- below a path where a user has no rights it has none
          pub none_above : (at : Option UserSpot) → at ≡ None → FindsUserSpot users s roots user above at
              → FindsUserSpot users s roots user q None
          unfolding FindsUserSpot
          none_above at is found =
              let none = subst (FindsUserSpot users s roots user above) is found in
              whole None (λ there has. none has.0 has.1)

          module _ (directory : UserSpot) (at : Option UserSpot) (at_is : at ≡ Some directory)
              (at_found : FindsUserSpot users s roots user above at) where
            reached : FindsUserSpot users s roots user above (Some directory)
            reached = subst (FindsUserSpot users s roots user above) at_is at_found

            -- nor where the last name isn't listed
            pub none_listed : FindsEntry s directory.target name None → FindsUserSpot users s roots user q None
            unfolding FindsUserSpot
            none_listed none =
                whole None (λ there is. none is.2.0 (listed_on s roots name above directory.target is.2.0 reached.0 is.2.1))

            -- where it is listed, the rights are those at the directory, narrowed
            pub found_below : (target : Target) → Lists s directory.target name target → (found : Option UserSpot)
                → FindsNarrowed users s target directory.there found → FindsUserSpot users s roots user q found
            unfolding FindsUserSpot
            found_below target lists found is =
                whole found (by found (found_at (name ∷ above) directory.there target
                (led_on s roots name above directory.target target reached.0 lists) found is))
              where
                by : (found : Option UserSpot)
                    → MatchOption found ((there : UserRights) → NarrowsTo users s roots (name ∷ above) directory.there there → ⊥)
                    (λ spot. LeadsTo s roots (name ∷ above) spot.target × NarrowsTo users s roots (name ∷ above) directory.there spot.there)
                    → FindsUserSpot users s roots user (name ∷ above) found
                by None none = λ there is.
                    none there (subst (λ (u : UserRights). NarrowsTo users s roots (name ∷ above) u there)
                    (one_set above is.0 directory.there is.1 reached.1) is.2)
                by (Some spot) is = (is.0, (directory.there, reached.1, is.1))
