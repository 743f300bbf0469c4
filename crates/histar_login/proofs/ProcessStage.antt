-- The objects that are added by the part of boot that makes process 0.
use Rattle.std.proofs.Common.{◌≡◌, ℕ, ◌+◌, ◌*◌, List, [], ◌∷◌, ◌++◌, length, None, Some, refl, sym, ◌∙◌, arith, append_assoc, append-nil}
use Rattle.std.proofs.lemmas.List.{length-append}
use Rattle.std.specs.FinSet as set
use Rattle.histar_level.specs.Levels.{Levels}
use Rattle.histar_object.specs.declared.objects.Kind.TheVariants.{Segment, Container, Thread}
use Rattle.histar_object.specs.declared.objects.Object.{Object}
use Rattle.histar_object.specs.State.{Found}
use Rattle.histar_rules.specs.declared.raw.RawCall.TheVariants as calls
use Rattle.histar_rules.specs.Sound.{root_number}
use Rattle.histar_level.specs.declared.level.Level.TheVariants.{Star, L1, L2, L3}
use Rattle.histar_syscall.specs.KernelModel.{KernelModel, Called, IsUnchanged}
use Rattle.histar_layout.specs.Labelling.{written_by, secret_of, owner_of, cleared_of}
use Rattle.histar_programs.specs.Start.{own_read_category, own_write_category, container, segment, first_process_bytes}
use Rattle.histar_login.specs.Boot.{outer_call, inner_call, thread_call, status_call, process_calls}
use Rattle.histar_programs.specs.Start.{boot_thread_number}
use Rattle.histar_login.specs.Booting.{Part, and_then, next_number, next_made, Boots, HasBegun, HasRoom, Allows, IsBeforeBoth, process_part}
use Rattle.histar_login.proofs.Stages.{boots_same}
use Rattle.histar_login.proofs.MadeLabels.{IsMadeGuard, written_made, secret_made, two_made, owner_below}
use Rattle.histar_login.proofs.AllowedCalls.{category_allowed, segment_allowed, container_allowed, thread_allowed, root_there, inside_there}
use Rattle.histar_login.proofs.Beginnings.{begun_at, calls_more}
use Rattle.histar_login.proofs.Parts.{one_category, one_object, next_number_is, next_made_is, boots_category, boots_shared, boots_within}

-- process 0, where each category and each number is the one that the kernel answered
module _ (first k0 : KernelModel) (p : Part) (b0 : Boots first k0 p) where
  -- the rules allow the first category
  pub read_allowed : HasRoom 2 4 p → Allows k0 calls.MakeCategory
  read_allowed room = category_allowed first k0 p b0 (omega (arith, room.room_for_categories))

  -- boot stops before the first category
  pub process_begun_none : (n owners : ℕ) (new : KernelModel) → IsUnchanged k0 new → HasBegun first new p.calls (process_calls n owners)
  process_begun_none n owners new same = begun_at first k0 new p.calls p (process_calls n owners) 0 b0 same (sym (append-nil p.calls)) (omega arith)

  module _ (read : ℕ) (k1 : KernelModel) (c1 : Called k0 k1 boot_thread_number calls.MakeCategory None) (is_read : read ≡ k0.kept.next_category) where
    -- the objects after the first category
    b1 : Boots first k1 (one_category p)
    b1 = boots_category first k0 k1 p b0 c1

    -- the rules allow the second category
    pub write_allowed : HasRoom 2 4 p → Allows k1 calls.MakeCategory
    write_allowed room = category_allowed first k1 (one_category p) b1 (omega (arith, room.room_for_categories))

    -- boot stops before the second category
    pub process_begun_one : (n owners : ℕ) (new : KernelModel) → IsUnchanged k1 new → HasBegun first new p.calls (process_calls n owners)
    process_begun_one n owners new same = begun_at first k1 new p.calls (one_category p) (process_calls n owners) 1 b1 same refl (omega arith)

    module _ (write : ℕ) (k2 : KernelModel) (c2 : Called k1 k2 boot_thread_number calls.MakeCategory None)
        (is_write : write ≡ k1.kept.next_category) where
      -- the objects after both categories
      p2 : Part
      p2 = one_category (one_category p)

      b2 : Boots first k2 p2
      unfolding p2
      b2 = boots_category first k1 k2 (one_category p) b1 c2

      -- the two categories are the last that were made
      read_last : read + 2 ≡ next_made p2
      unfolding p2
      read_last = omega (arith, is_read, next_made_is first k0 k0 p b0)

      write_last : write + 1 ≡ next_made p2
      unfolding p2
      write_last = omega (arith, is_write, next_made_is first k1 k1 (one_category p) b1)

      -- labels may name the two categories
      guarded : IsMadeGuard (next_made p2) (written_by write)
      unfolding p2
      guarded = written_made (next_made p2) write (omega (arith, write_last)) (omega (arith, write_last))

      secret : IsMadeGuard (next_made p2) (secret_of read write)
      unfolding p2
      secret =
          secret_made (next_made p2) read write (omega (arith, read_last)) (omega (arith, read_last))
          (omega (arith, write_last)) (omega (arith, write_last))

      -- the raw calls so far
      calls2 : p2.calls ≡ p.calls ++ calls.MakeCategory ∷ calls.MakeCategory ∷ []
      unfolding p2
      calls2 = calls_more p.calls (calls.MakeCategory ∷ []) (one_category p).calls calls.MakeCategory refl

      -- the categories, where process 0 begins there
      read_is : (n owners : ℕ) → IsBeforeBoth (6 + 2 * n) (own_read_category owners) p → read ≡ own_read_category owners
      unfolding p2
      read_is n owners at = omega (arith, read_last, at.1)

      write_is : (n owners : ℕ) → IsBeforeBoth (6 + 2 * n) (own_read_category owners) p → write ≡ own_write_category owners
      unfolding p2
      write_is n owners at = omega (arith, write_last, at.1)

      -- the rules allow the container
      pub outer_allowed : HasRoom 2 4 p → Allows k2 (outer_call write)
      unfolding p2
      outer_allowed room =
          container_allowed first k2 p2 b2 root_number (root_there first k2 p2 b2)
          (omega (arith, room.room_for_objects)) (written_by write) guarded

      -- boot stops before the container
      pub process_begun_two : (n owners : ℕ) (new : KernelModel) → IsUnchanged k2 new → HasBegun first new p.calls (process_calls n owners)
      process_begun_two n owners new same = begun_at first k2 new p.calls p2 (process_calls n owners) 2 b2 same calls2 (omega arith)

      module _ (outer : ℕ) (k3 : KernelModel) (c3 : Called k2 k3 boot_thread_number (outer_call write) None)
          (is_outer : outer ≡ k2.kept.next_object) where
        -- the container of process 0
        outer_object : Object Levels
        outer_object = record { label = written_by write; kind = Container set.empty }

        -- the objects with the container
        p3 : Part
        p3 = one_object p2 (outer_call write) outer_object

        b3 : Boots first k3 p3
        unfolding outer_object p2 p3
        b3 = boots_shared first k2 k3 p2 b2 (outer_call write) outer_object c3 c3.state

        -- the number of the container
        outer_at : outer ≡ 3 + length p.objects
        unfolding p2
        outer_at = is_outer ∙ next_number_is first k2 k2 p2 b2

        calls3 : p3.calls ≡ p.calls ++ calls.MakeCategory ∷ calls.MakeCategory ∷ outer_call write ∷ []
        unfolding p3
        calls3 = calls_more p.calls (calls.MakeCategory ∷ calls.MakeCategory ∷ []) p2.calls (outer_call write) calls2

        after3 : next_number p3 ≡ 1 + next_number p
        unfolding p2 p3
        after3 = omega (arith, length-append p.objects (Some outer_object ∷ []))

        -- the rules allow the internal container
        pub inner_allowed : HasRoom 2 4 p → Allows k3 (inner_call outer read write)
        unfolding p2 p3 outer_object
        inner_allowed room =
            container_allowed first k3 p3 b3 outer
            (inside_there first k3 p3 b3 outer p.objects [] (written_by write) [] refl outer_at guarded.label)
            (omega (arith, room.room_for_objects, after3)) (secret_of read write) secret

        -- boot stops before the internal container
        pub process_begun_three : (n owners : ℕ) → IsBeforeBoth (6 + 2 * n) (own_read_category owners) p
            → (new : KernelModel) → IsUnchanged k3 new → HasBegun first new p.calls (process_calls n owners)
        process_begun_three n owners at new same =
            begun_at first k3 new p.calls p3 (process_calls n owners) 3 b3 same
            (calls3 ∙ (λ j. p.calls ++ calls.MakeCategory ∷ calls.MakeCategory ∷ outer_call (write_is n owners at j) ∷ [])) (omega arith)

        module _ (inner : ℕ) (k4 : KernelModel)
            (c4 : Called k3 k4 boot_thread_number (inner_call outer read write) None)
            (is_inner : inner ≡ k3.kept.next_object) where
          -- the internal container
          inner_object : Object Levels
          inner_object = record { label = secret_of read write; kind = Container set.empty }

          -- the objects with the internal container
          p4 : Part
          p4 = record {
            calls = p3.calls ++ inner_call outer read write ∷ [];
            linked = p3.linked;
            objects = p.objects ++ container (written_by write) (next_number p3 ∷ []) ∷ Some inner_object ∷ [];
            categories = p2.categories;
          }

          -- the objects before the internal container
          front5 : List Found
          front5 = p.objects ++ container (written_by write) (next_number p3 ∷ []) ∷ []

          b4 : Boots first k4 p4
          unfolding outer_object inner_object p2 p3 p4
          b4 =
              boots_within first k3 k4 p3 b3 (inner_call outer read write) inner_object outer p.objects []
              (written_by write) [] refl outer_at c4 c4.state

          -- the number of the internal container
          inner_at : inner ≡ 3 + length front5
          unfolding front5
          inner_at =
              omega (
                arith,
                is_inner,
                next_number_is first k3 k3 p3 b3,
                after3,
                length-append p.objects
                    (container (written_by write) (next_number p3 ∷ []) ∷ []),
              )

          parts4 : p4.objects ≡ front5 ++ Some inner_object ∷ []
          unfolding p4 front5
          parts4 = sym (append_assoc p.objects (container (written_by write) (next_number p3 ∷ []) ∷ []) (Some inner_object ∷ []))

          calls4 : p4.calls ≡ p.calls ++ calls.MakeCategory ∷ calls.MakeCategory ∷ outer_call write ∷ inner_call outer read write ∷ []
          unfolding p4
          calls4 = calls_more p.calls (calls.MakeCategory ∷ calls.MakeCategory ∷ outer_call write ∷ []) p3.calls (inner_call outer read write) calls3

          after4 : next_number p4 ≡ 2 + next_number p
          unfolding p4
          after4 = omega (arith, length-append p.objects (container (written_by write) (next_number p3 ∷ []) ∷ Some inner_object ∷ []))

          outer_is : (n owners : ℕ) → IsBeforeBoth (6 + 2 * n) (own_read_category owners) p → outer ≡ 6 + 2 * n
          outer_is n owners at = outer_at ∙ at.0

          -- the rules allow the thread
          pub birth_allowed : HasRoom 2 4 p → Allows k4 (thread_call inner read write)
          unfolding p2 p3 p4 inner_object
          birth_allowed room =
              thread_allowed first k4 p4 b4 inner
              (inside_there first k4 p4 b4 inner front5 [] (secret_of read write) [] parts4 inner_at secret.label)
              (omega (arith, room.room_for_objects, after4)) (owner_of read write) (cleared_of read write)
              (two_made (next_made p4) L1 Star read write (omega (arith, read_last)) (omega (arith, read_last))
              (omega (arith, write_last)) (omega (arith, write_last)))
              (two_made (next_made p4) L2 L3 read write (omega (arith, read_last)) (omega (arith, read_last))
              (omega (arith, write_last)) (omega (arith, write_last)))
              (owner_below read write)

          -- boot stops before the thread
          pub process_begun_four : (n owners : ℕ) → IsBeforeBoth (6 + 2 * n) (own_read_category owners) p
              → (new : KernelModel) → IsUnchanged k4 new → HasBegun first new p.calls (process_calls n owners)
          process_begun_four n owners at new same =
              begun_at first k4 new p.calls p4 (process_calls n owners) 4 b4 same
              (calls4
              ∙ (λ j. p.calls ++ calls.MakeCategory ∷ calls.MakeCategory ∷ outer_call (write_is n owners at j) ∷ inner_call (outer_is n owners at j)
              (read_is n owners at j) (write_is n owners at j) ∷ [])) (omega arith)

          module _ (thread : ℕ) (k5 : KernelModel)
              (c5 : Called k4 k5 boot_thread_number (thread_call inner read write) None)
              (is_thread : thread ≡ k4.kept.next_object) where
            -- the thread of process 0
            thread_object : Object Levels
            thread_object = record { label = owner_of read write; kind = Thread (cleared_of read write) }

            -- the objects with the thread
            p5 : Part
            p5 = record {
              calls = p4.calls ++ thread_call inner read write ∷ [];
              linked = p3.linked;
              objects = front5 ++ container (secret_of read write) (next_number p4 ∷ []) ∷ Some thread_object ∷ [];
              categories = p2.categories;
            }

            b5 : Boots first k5 p5
            unfolding inner_object thread_object p2 p3 p4 p5
            b5 =
                boots_within first k4 k5 p4 b4 (thread_call inner read write) thread_object inner front5 []
                (secret_of read write) [] parts4 inner_at c5 c5.state

            parts5 : p5.objects
                ≡ p.objects
                ++ container (written_by write) (next_number p3 ∷ [])
                ∷ container (secret_of read write) (next_number p4 ∷ []) ∷ Some thread_object ∷ []
            unfolding p5 front5
            parts5 =
                append_assoc p.objects (container (written_by write) (next_number p3 ∷ []) ∷ [])
                (container (secret_of read write) (next_number p4 ∷ []) ∷ Some thread_object ∷ [])

            calls5 : p5.calls
                ≡ p.calls
                ++ calls.MakeCategory ∷ calls.MakeCategory ∷ outer_call write ∷ inner_call outer read write
                ∷ thread_call inner read write ∷ []
            unfolding p5
            calls5 =
                calls_more p.calls
                (calls.MakeCategory ∷ calls.MakeCategory ∷ outer_call write ∷ inner_call outer read write ∷ [])
                p4.calls (thread_call inner read write) calls4

            after5 : next_number p5 ≡ 3 + next_number p
            unfolding p5 front5
            after5 =
                omega (
                  arith,
                  length-append p.objects (container (written_by write) (next_number p3 ∷ []) ∷ []),
                  length-append front5
                      (container (secret_of read write) (next_number p4 ∷ []) ∷ Some thread_object ∷ []),
                )

            inner_is : (n owners : ℕ) → IsBeforeBoth (6 + 2 * n) (own_read_category owners) p → inner ≡ 7 + 2 * n
            inner_is n owners at = omega (arith, is_inner, next_number_is first k3 k3 p3 b3, after3, at.0)

            thread_is : (n owners : ℕ) → IsBeforeBoth (6 + 2 * n) (own_read_category owners) p → thread ≡ 8 + 2 * n
            thread_is n owners at = omega (arith, is_thread, next_number_is first k4 k4 p4 b4, after4, at.0)

            -- the rules allow the process segment
            pub status_allowed : HasRoom 2 4 p → Allows k5 (status_call outer write inner thread)
            unfolding p2 p3 p4 p5
            status_allowed room =
                segment_allowed first k5 p5 b5 outer
                (inside_there first k5 p5 b5 outer p.objects
                (container (secret_of read write) (next_number p4 ∷ []) ∷ Some thread_object ∷ [])
                (written_by write) (next_number p3 ∷ []) parts5 outer_at guarded.label)
                (omega (arith, room.room_for_objects, after5)) (written_by write) (first_process_bytes inner thread) guarded (omega arith)

            -- boot stops before the process segment
            pub process_begun_five : (n owners : ℕ) → IsBeforeBoth (6 + 2 * n) (own_read_category owners) p
                → (new : KernelModel) → IsUnchanged k5 new → HasBegun first new p.calls (process_calls n owners)
            process_begun_five n owners at new same =
                begun_at first k5 new p.calls p5 (process_calls n owners) 5 b5 same
                (calls5
                ∙
                (λ j. p.calls
                ++ calls.MakeCategory ∷ calls.MakeCategory ∷ outer_call (write_is n owners at j)
                ∷ inner_call (outer_is n owners at j) (read_is n owners at j) (write_is n owners at j)
                ∷ thread_call (inner_is n owners at j) (read_is n owners at j) (write_is n owners at j) ∷ [])) (omega arith)

            module _ (status : ℕ) (k6 : KernelModel)
                (c6 : Called k5 k6 boot_thread_number (status_call outer write inner thread) None)
                (is_status : status ≡ k5.kept.next_object) (n owners : ℕ)
                (at : IsBeforeBoth (6 + 2 * n) (own_read_category owners) p) where
              -- the process segment of process 0
              process_object : Object Levels
              process_object = record { label = written_by write; kind = Segment (first_process_bytes inner thread) }

              -- the objects with the process segment
              p6 : Part
              p6 = record {
                calls = p5.calls ++ status_call outer write inner thread ∷ [];
                linked = p3.linked;
                objects =
                    p.objects
                    ++ container (written_by write) (next_number p3 ∷ next_number p5 ∷ [])
                    ∷ container (secret_of read write) (next_number p4 ∷ []) ∷ Some thread_object
                    ∷ Some process_object ∷ [];
                categories = p2.categories;
              }

              b6 : Boots first k6 p6
              unfolding thread_object process_object p2 p3 p4 p5 p6
              b6 =
                  boots_within first k5 k6 p5 b5 (status_call outer write inner thread) process_object outer p.objects
                  (container (secret_of read write) (next_number p4 ∷ []) ∷ Some thread_object ∷ [])
                  (written_by write) (next_number p3 ∷ []) parts5 outer_at c6 c6.state

              -- the categories and the numbers that the kernel answered
              r_is : read ≡ own_read_category owners
              r_is = read_is n owners at

              w_is : write ≡ own_write_category owners
              w_is = write_is n owners at

              o_is : outer ≡ 6 + 2 * n
              o_is = outer_is n owners at

              i_is : inner ≡ 7 + 2 * n
              i_is = inner_is n owners at

              t_is : thread ≡ 8 + 2 * n
              t_is = thread_is n owners at

              next3 : next_number p3 ≡ 7 + 2 * n
              next3 = omega (arith, after3, at.0)

              next4 : next_number p4 ≡ 8 + 2 * n
              next4 = omega (arith, after4, at.0)

              next5 : next_number p5 ≡ 9 + 2 * n
              next5 = omega (arith, after5, at.0)

              -- all six objects together
              process_boots : Boots first k6 (and_then p (process_part n owners))
              unfolding outer_object inner_object thread_object process_object p2 p3 p4 p5 p6
              process_boots =
                  boots_same first k6 p6 (and_then p (process_part n owners)) b6
                  (calls_more p.calls (calls.MakeCategory ∷ calls.MakeCategory ∷ outer_call write ∷ inner_call outer read write
                  ∷ thread_call inner read write ∷ []) p5.calls (status_call outer write inner thread) calls5
                  ∙ (λ j. p.calls
                  ++ calls.MakeCategory ∷ calls.MakeCategory ∷ outer_call (w_is j)
                  ∷ inner_call (o_is j) (r_is j) (w_is j) ∷ thread_call (i_is j) (r_is j) (w_is j)
                  ∷ status_call (o_is j) (w_is j) (i_is j) (t_is j) ∷ []))
                  (λ j. p.linked ++ at.0 j ∷ [])
                  (λ j. p.objects ++ container (written_by (w_is j)) (next3 j ∷ next5 j ∷ []) ∷ container (secret_of (r_is j) (w_is j)) (next4 j ∷ [])
                  ∷ Some (record { label = owner_of (r_is j) (w_is j); kind = Thread (cleared_of (r_is j) (w_is j)) })
                  ∷ segment (written_by (w_is j)) (first_process_bytes (i_is j) (t_is j)) ∷ [])
                  (omega arith)

              -- the process segment has its number too
              process_status : status ≡ 9 + 2 * n
              process_status = is_status ∙ next_number_is first k5 k5 p5 b5 ∙ next5

              -- the objects after this part, and where process 0 is found
              pub process_stage : Boots first k6 (and_then p (process_part n owners)) × (outer ≡ 6 + 2 * n) × (status ≡ 9 + 2 * n)
              process_stage = (process_boots, o_is, process_status)
