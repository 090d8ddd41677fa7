-- Reading the counters of a vector one by one.
use Rattle.std.proofs.Common.{◌≡◌, ℕ, ◌-◌, ◌+◌, ◌<◌, ◌≤◌, List, [], length, take, set, Ok, Err, refl, ap, ◌∙◌, arith}
use Rattle.std.specs.List.{flat_map}
use Rattle.std.proofs.Math.Seq.{take-length}
use Rattle.std.proofs.lemmas.List.{take_more_set}
use Rattle.locus_ids.specs.Sizes.{sites_max}
use Rattle.field_codec.specs.declared.faults.FieldFault.{FieldFault}
use Rattle.field_codec.specs.Codec.{Codec, Unread, Read, u32}
use Rattle.field_codec.specs.Lists.{read_times}
use Rattle.field_codec.specs.Shapes.{repeated}
use Rattle.field_codec.proofs.Loop.{with_front, goes_on, ends, is_done, spelled_alike}

-- so many items, with no tie between them
abbrev pub times : {A : Type 0} → Codec A → ℕ → Unread → Read (List A)
times c n u = let start : Unit {0} = tt in read_times (λ (_ : Unit {0}). c) (λ _ _. start) start n u

pub times_start : (r : Read (List ℕ)) → with_front [] r ≡ r
times_start (Ok x) = refl
times_start (Err e) = refl

module _ (c : Codec ℕ) (n i : ℕ) (items : List ℕ) where
  pub times_more : (x : ℕ) (u after : Unread) (total : Read (List ℕ)) → length items ≡ n → i < n → c.read u ≡ Ok (x, after) → with_front (take i items) (times c (n - i) u) ≡ total
      → with_front (take (i + 1) (set items i x)) (times c (n - (i + 1)) after) ≡ total
  times_more x u after total len lt e so_far =
      let start : Unit {0} = tt in
      rw (take_more_set items i x (omega arith)) (goes_on (λ (_ : Unit {0}). c) (λ _ _. start) (take i items) start n i u x after total lt e so_far)

  pub times_end : (u : Unread) (d : FieldFault) (total : Read (List ℕ)) → i < n → c.read u ≡ Err d → with_front (take i items) (times c (n - i) u) ≡ total → total ≡ Err d
  times_end u d total lt e so_far =
      let start : Unit {0} = tt in
      ends (λ (_ : Unit {0}). c) (λ _ _. start) (take i items) start n i u d total lt e so_far

  pub times_done : (u : Unread) (total : Read (List ℕ)) → length items ≡ n → i ≤ n → n ≤ i → with_front (take i items) (times c (n - i) u) ≡ total → total ≡ Ok (items, u)
  times_done u total len low high so_far =
      let start : Unit {0} = tt in
      let same : i ≡ length items = omega arith in
      is_done (λ (_ : Unit {0}). c) (λ _ _. start) (take i items) start n i u total high so_far ∙ ap (λ (xs : List ℕ). Ok (xs, u)) (ap (λ (k : ℕ). take k items) same ∙ take-length items)

pub counters_spelled : (v : List ℕ) → (repeated sites_max u32).spell v ≡ flat_map u32.spell v
counters_spelled v =
    let start : Unit {0} = tt in
    spelled_alike (λ (_ : Unit {0}). u32) (λ _ _. start) u32.spell (λ _ _. refl) start v
