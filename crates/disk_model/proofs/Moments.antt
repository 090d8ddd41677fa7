-- How runs of disk calls go on.
use Rattle.std.proofs.Common.{inl, inr, ⊎_elim, ℕ, ◌≤◌, List, arith, subst}
use Rattle.std.specs.Prelude.{Result, Ok, Err, OnOk}
use Rattle.disk_model.specs.Disk.{Moment, Goes, IsAfter, Only}
use Rattle.disk_model.specs.Moments.{LeavesOnly}

module _ {D : Type 0} (moment : D → Moment) where
  -- before the first call
  pub goes_start : (step : List ℕ → List ℕ → Type 0) (old : D) → ((c : List ℕ) → step c c) → Goes step (moment old) (moment old)
  goes_start step old stays = record { later = omega arith; images = λ c is. (c, is, stays c); since = λ t c le left. inl left }

  -- one call more, whose step is one of a kind that joins
  pub goes_more : (small step : List ℕ → List ℕ → Type 0) (old mid new : D) → ((a b : List ℕ) → small a b → step a b) → ((a b c : List ℕ) → step a b → step b c → step a c)
      → Goes step (moment old) (moment mid) → Goes small (moment mid) (moment new) → Goes step (moment old) (moment new)
  goes_more small step old mid new wider joins first then = record {
    later = omega (arith, first.later, then.later);
    images = after;
    since = λ t c le left. ⊎_elim (λ was. first.since t c le was) (λ more. inr (join c more)) (then.since t c (omega (arith, le, first.later)) left);
  }
    where
      join : (c : List ℕ) → IsAfter small (moment mid).may_leave c → IsAfter step (moment old).may_leave c
      join c more = let from = first.images more.0 more.1 in (from.0, from.1, joins from.0 more.0 c from.2 (wider more.0 c more.2))

      after : (c : List ℕ) → (moment new).may_leave c → IsAfter step (moment old).may_leave c
      after c is = join c (then.images c is)

  -- before the first call of a run
  pub leaves_start : (old : D) (P : List ℕ → Type 0) → ((c : List ℕ) → (moment old).may_have_left (moment old).now c → P c) → LeavesOnly (moment old) (moment old) P
  leaves_start old P here = record { later = omega arith; each = here; before = λ t c le left. inl left }

  -- after one call more, within which a crash leaves what has P
  pub leaves_more : (step : List ℕ → List ℕ → Type 0) (old mid new : D) (P : List ℕ → Type 0) → LeavesOnly (moment old) (moment mid) P → Goes step (moment mid) (moment new)
      → ((c : List ℕ) → IsAfter step (moment mid).may_leave c → P c) → LeavesOnly (moment old) (moment new) P
  leaves_more step old mid new P so_far then here = record {
    later = omega (arith, so_far.later, then.later);
    each = λ c left. ⊎_elim (so_far.each c) (here c) (then.since (moment old).now c so_far.later left);
    before = λ t c le left. ⊎_elim (λ was. so_far.before t c le was) (λ more. inr (here c more)) (then.since t c (omega (arith, le, so_far.later)) left);
  }

  -- where a crash leaves only this, a step from an image is one from this
  pub from_only : (step : List ℕ → List ℕ → Type 0) (mid : D) (seen c : List ℕ) → Only seen (moment mid).may_leave → IsAfter step (moment mid).may_leave c → step seen c
  from_only step mid seen c only after = subst (λ (d : List ℕ). step d c) (only after.0 after.1) after.2

  -- and so what has Q, where P says more
  pub leaves_weaker : (old new : D) (P Q : List ℕ → Type 0) → ((c : List ℕ) → P c → Q c) → LeavesOnly (moment old) (moment new) P → LeavesOnly (moment old) (moment new) Q
  leaves_weaker old new P Q weaker leaves = record {
    later = leaves.later;
    each = λ c left. weaker c (leaves.each c left);
    before = λ t c le left. ⊎_elim (λ was. inl was) (λ more. inr (weaker c more)) (leaves.before t c le left);
  }

  -- what a cut leaves now is one of the images of the run
  pub leaves_cut : (old new : D) (P : List ℕ → Type 0) → LeavesOnly (moment old) (moment new) P → ((t : ℕ) (c : List ℕ) → t ≤ (moment new).now → (moment new).may_leave c → (moment new).may_have_left t c) → (moment new).may_leave (moment new).left → P (moment new).left
  leaves_cut old new P leaves counts is = leaves.each (moment new).left (counts (moment old).now (moment new).left leaves.later is)

pub on_ok : {T E : Type 0} (r : Result T E) (A B : Type 0) → (A → B) → OnOk r A → OnOk r B
on_ok (Ok x) A B f a = f a
on_ok (Err e) A B f a = a

-- a wider step
pub goes_wider : {D : Type 0} (moment : D → Moment) (small step : List ℕ → List ℕ → Type 0) (old new : D) → ((a b : List ℕ) → small a b → step a b)
    → Goes small (moment old) (moment new) → Goes step (moment old) (moment new)
goes_wider moment small step old new wider goes = record {
  later = goes.later;
  images = λ c is. let from = goes.images c is in (from.0, from.1, wider from.0 c from.2);
  since = λ t c le left. ⊎_elim (λ was. inl was) (λ more. inr (more.0, more.1, wider more.0 c more.2)) (goes.since t c le left);
}
