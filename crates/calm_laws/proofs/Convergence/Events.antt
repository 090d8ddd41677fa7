-- What an event of a site leaves of the world, with all that it puts under way.
use Rattle.std.proofs.Common.{◌≡◌, ◌≢◌, ℕ, ◌+◌, ◌⊎◌, List, [], ◌++◌, Option, Some, None, refl, sym, ◌∙◌, ap, inl, inr}
use Rattle.role_steps.specs.Views.{SiteView, Outcome}
use Rattle.the_run.specs.Disks.{Disk, cut_disk}
use Rattle.the_run.specs.Worlds.{World, Limit, Running, Stopped, Numbered, place_at, numbered_from, puts, arms, stops_with, cut_told, runs_on, acts}
use Rattle.the_run.proofs.Boots.{acts_cases}
use Rattle.the_run.proofs.Events.{puts_other, puts_same}
use Rattle.row_laws.proofs.Orderly.Rounds.{happened_cases}

-- the site runs on, and what it sends is put under way
pub record RunsOn (s : ℕ) (o : Outcome SiteView) (u : World) (more : List Numbered) : Type 0 where
  pub here : place_at u s ≡ Some (Running o.view)
  pub number : ℕ
  pub sends : more ≡ numbered_from number o.sent

-- the event of the site made one world of the other: it runs on, or has stopped in the event
pub record Moved (s : ℕ) (o : Outcome SiteView) (w u : World) : Type 0 where
  pub others : (t : ℕ) → s ≢ t → place_at u t ≡ place_at w t
  pub more : List Numbered
  pub underway : u.underway ≡ w.underway ++ more
  pub ran : RunsOn s o u more ⊎ ((d : Disk) × (place_at u s ≡ Some (Stopped d)))

some_limit : (l : Limit) → ◌≡◌ {A = Option Limit} (Some l) None → ⊥
some_limit l e = cc

pub acts_moved : (n s : ℕ) (v : SiteView) (o : Outcome SiteView) (w : World) → (acts n s v o w).over ≡ None → Moved s o w (acts n s v o w)
acts_moved n s v o w =
    acts_cases (λ u. u.over ≡ None → Moved s o w u) n s v o w
    (runs (λ now. now) (λ t. refl) refl)
    (λ a. runs (arms a) (λ t. refl) refl)
    (λ d a e. happened_cases (λ u. u.over ≡ None → Moved s o w u) n [] (cut_told s v.store d a.how a.left) (stops_with s (cut_disk v.boot v.store d a.how a.left)) w
    (λ l e k. absurd (some_limit l (sym e ∙ k)))
    (λ l k. absurd (some_limit l k))
    (λ k b t e h. record {
      others = λ x ne. puts_other s x (Stopped (cut_disk v.boot v.store d a.how a.left)) w ne;
      more = [];
      underway = refl;
      ran = inr (cut_disk v.boot v.store d a.how a.left, puts_same s (Stopped (cut_disk v.boot v.store d a.how a.left)) w);
    }))
  where
    runs : (change : World → World) → ((t : ℕ) → place_at (change w) t ≡ place_at w t) → (change w).underway ≡ w.underway → (runs_on n s o change w).over ≡ None → Moved s o w (runs_on n s o change w)
    runs change places under =
        happened_cases (λ u. u.over ≡ None → Moved s o w u) n o.sent o.told (λ now. puts s (Running o.view) (change now)) w
        (λ l e k. absurd (some_limit l (sym e ∙ k)))
        (λ l k. absurd (some_limit l k))
        (λ k b t e h. record {
          others = λ x ne. puts_other s x (Running o.view) (change w) ne ∙ places x;
          more = numbered_from (w.packets + 1) o.sent;
          underway = ap (λ (xs : List Numbered). xs ++ numbered_from (w.packets + 1) o.sent) under;
          ran = inl (record { here = puts_same s (Running o.view) (change w); number = w.packets + 1; sends = refl });
        })
