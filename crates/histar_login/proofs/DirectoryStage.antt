-- The objects that are added by the part of boot that makes `/`.
use Rattle.std.proofs.Common.{◌≡◌, ℕ, ◌+◌, ◌*◌, ◌<◌, ◌≤◌, [], ◌∷◌, ◌++◌, length, None, Some, refl, sym, ap, ◌∙◌, arith, append_assoc, append-nil}
use Rattle.std.proofs.lemmas.List.{length-append}
use Rattle.std.specs.FinSet as set
use Rattle.histar_flat.specs.Accounts.{Accounts}
use Rattle.histar_level.specs.Levels.{Levels}
use Rattle.histar_object.specs.declared.objects.Kind.TheVariants.{Segment, Container}
use Rattle.histar_object.specs.declared.objects.Object.{Object}
use Rattle.histar_rules.specs.Sound.{root_number}
use Rattle.histar_syscall.specs.KernelModel.{KernelModel, Called, IsUnchanged}
use Rattle.histar_layout.specs.Categories.{write_category}
use Rattle.histar_layout.specs.Labelling.{written_by}
use Rattle.histar_programs.specs.Start.{root_category, container, user_table}
use Rattle.histar_login.specs.Boot.{table_call, slash_call, listing_call, directory_calls}
use Rattle.histar_programs.specs.Start.{boot_thread_number}
use Rattle.histar_login.specs.Booting.{Part, and_then, next_number, next_made, Boots, HasBegun, Allows, IsBeforeDirectory, directory_part}
use Rattle.histar_login.proofs.Stages.{boots_same}
use Rattle.histar_login.proofs.MadeLabels.{IsMadeGuard, written_made}
use Rattle.histar_login.proofs.AllowedCalls.{segment_allowed, container_allowed, root_there, inside_there}
use Rattle.histar_login.proofs.Beginnings.{begun_at, calls_more}
use Rattle.histar_login.proofs.Parts.{one_object, next_number_is, boots_shared, boots_within}

-- the user table and `/`, where the container of `/` has the number that the kernel answered
module _ (accounts : Accounts) (first k0 : KernelModel) (p : Part) (b0 : Boots first k0 p) where
  -- the rules allow to make the user table
  pub table_allowed : IsBeforeDirectory accounts p → length (user_table accounts) ≤ 4096 → Allows k0 (table_call accounts)
  table_allowed before few =
      segment_allowed first k0 p b0 root_number (root_there first k0 p b0) (omega (arith, before.room.room_for_objects))
      (written_by root_category) (user_table accounts)
      (written_made (next_made p) root_category (omega arith) (omega arith)) few

  -- boot stops before the user table
  pub directory_begun_none : (n : ℕ) (new : KernelModel) → IsUnchanged k0 new → HasBegun first new p.calls (directory_calls n accounts)
  directory_begun_none n new same = begun_at first k0 new p.calls p (directory_calls n accounts) 0 b0 same (sym (append-nil p.calls)) (omega arith)

  module _ (k1 : KernelModel) (c1 : Called k0 k1 boot_thread_number (table_call accounts) None) where
    -- the user table
    table_object : Object Levels
    table_object = record { label = written_by root_category; kind = Segment (user_table accounts) }

    -- the objects with the user table
    p1 : Part
    p1 = one_object p (table_call accounts) table_object

    b1 : Boots first k1 p1
    unfolding table_object p1
    b1 = boots_shared first k0 k1 p b0 (table_call accounts) table_object c1 c1.state

    -- what the first user writes may be given this label
    first_made : IsBeforeDirectory accounts p → 0 < length accounts.users → IsMadeGuard (next_made p) (written_by (write_category 1))
    first_made before some = written_made (next_made p) (write_category 1) (omega arith) (omega (arith, before.comes.1, some))

    -- the rules allow to make `/`
    pub slash_allowed : IsBeforeDirectory accounts p → 0 < length accounts.users → Allows k1 slash_call
    unfolding p1
    slash_allowed before some =
        container_allowed first k1 p1 b1 root_number (root_there first k1 p1 b1)
        (omega (arith, before.room.room_for_objects, length-append p.objects (Some table_object ∷ [])))
        (written_by (write_category 1)) (first_made before some)

    -- boot stops before `/`
    pub directory_begun_one : (n : ℕ) (new : KernelModel) → IsUnchanged k1 new → HasBegun first new p.calls (directory_calls n accounts)
    unfolding p1
    directory_begun_one n new same = begun_at first k1 new p.calls p1 (directory_calls n accounts) 1 b1 same refl (omega arith)

    module _ (root : ℕ) (k2 : KernelModel) (c2 : Called k1 k2 boot_thread_number slash_call None) (is_root : root ≡ k1.kept.next_object) where
      -- `/`
      root_object : Object Levels
      root_object = record { label = written_by (write_category 1); kind = Container set.empty }

      -- the objects with `/`
      p2 : Part
      p2 = one_object p1 slash_call root_object

      b2 : Boots first k2 p2
      unfolding root_object p1 p2
      b2 = boots_shared first k1 k2 p1 b1 slash_call root_object c2 c2.state

      -- the number of `/`
      root_at : root ≡ 3 + length (p.objects ++ Some table_object ∷ [])
      unfolding p1
      root_at = is_root ∙ next_number_is first k1 k1 p1 b1

      -- the raw calls so far
      calls2 : p2.calls ≡ p.calls ++ table_call accounts ∷ slash_call ∷ []
      unfolding p1 p2
      calls2 = calls_more p.calls (table_call accounts ∷ []) p1.calls slash_call refl

      -- the next number after both objects
      after2 : next_number p2 ≡ 2 + next_number p
      unfolding p1 p2
      after2 =
          omega (
            arith,
            length-append p.objects (Some table_object ∷ []),
            length-append
                (p.objects ++ Some table_object ∷ []) (Some root_object ∷ []),
          )

      -- the rules allow to make its directory segment
      pub listing_allowed : IsBeforeDirectory accounts p → 0 < length accounts.users → Allows k2 (listing_call root)
      unfolding p1 p2 root_object
      listing_allowed before some =
          let guard = first_made before some in
          segment_allowed first k2 p2 b2 root
          (inside_there first k2 p2 b2 root (p.objects ++ Some table_object ∷ []) [] (written_by (write_category 1)) [] refl root_at guard.label)
          (omega (arith, before.room.room_for_objects, after2)) (written_by (write_category 1)) [] guard (omega arith)

      -- boot stops before the directory segment
      pub directory_begun_two : (n : ℕ) (new : KernelModel) → IsUnchanged k2 new → HasBegun first new p.calls (directory_calls n accounts)
      directory_begun_two n new same = begun_at first k2 new p.calls p2 (directory_calls n accounts) 2 b2 same calls2 (omega arith)

      module _ (listing : ℕ) (k3 : KernelModel) (c3 : Called k2 k3 boot_thread_number (listing_call root) None)
          (is_listing : listing ≡ k2.kept.next_object) (n : ℕ) (at : next_number p ≡ 3 + 2 * n) where
        -- the directory segment of `/`
        listing_object : Object Levels
        listing_object = record { label = written_by (write_category 1); kind = Segment [] }

        -- the objects with the directory segment
        p3 : Part
        p3 = record {
          calls = p2.calls ++ listing_call root ∷ [];
          linked = p2.linked;
          objects =
              (p.objects ++ Some table_object ∷ [])
              ++ container (written_by (write_category 1)) (next_number p2 ∷ []) ∷ Some listing_object ∷ [];
          categories = p.categories;
        }

        b3 : Boots first k3 p3
        unfolding listing_object root_object p1 p2 p3
        b3 =
            boots_within first k2 k3 p2 b2 (listing_call root) listing_object root (p.objects ++ Some table_object ∷ [])
            [] (written_by (write_category 1)) [] refl root_at c3 c3.state

        -- the numbers of the objects
        next1 : next_number p1 ≡ 4 + 2 * n
        unfolding p1
        next1 = omega (arith, at, length-append p.objects (Some table_object ∷ []))

        next2 : next_number p2 ≡ 5 + 2 * n
        next2 = omega (arith, at, after2)

        -- the container of `/` has its number
        directory_root : root ≡ 4 + 2 * n
        directory_root = is_root ∙ next_number_is first k1 k1 p1 b1 ∙ next1

        -- the directory segment of `/` has its number
        directory_listing : listing ≡ 5 + 2 * n
        directory_listing = is_listing ∙ next_number_is first k2 k2 p2 b2 ∙ next2

        -- all three objects together
        directory_boots : Boots first k3 (and_then p (directory_part n accounts))
        unfolding table_object root_object listing_object p1 p2 p3
        directory_boots =
            boots_same first k3 p3 (and_then p (directory_part n accounts)) b3
            (calls_more p.calls (table_call accounts ∷ slash_call ∷ []) p2.calls (listing_call root) calls2
            ∙ ap (λ (k : ℕ). p.calls ++ table_call accounts ∷ slash_call ∷ listing_call k ∷ []) directory_root)
            (append_assoc p.linked (next_number p ∷ []) (next_number p1 ∷ []) ∙ (λ j. p.linked ++ at j ∷ next1 j ∷ []))
            (append_assoc p.objects (Some table_object ∷ [])
            (container (written_by (write_category 1)) (next_number p2 ∷ []) ∷ Some listing_object ∷ [])
            ∙ (λ j. p.objects ++ Some table_object ∷ container (written_by (write_category 1)) (next2 j ∷ []) ∷ Some listing_object ∷ []))
            (omega arith)

        -- the objects after this part, and the two numbers
        pub directory_stage : Boots first k3 (and_then p (directory_part n accounts)) × (root ≡ 4 + 2 * n) × (listing ≡ 5 + 2 * n)
        directory_stage = (directory_boots, directory_root, directory_listing)
