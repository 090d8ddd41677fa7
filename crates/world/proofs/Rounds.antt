-- A round, packet by packet.
use Rattle.std.proofs.Common.{◌≡◌, ℕ, zero, suc, ◌+◌, ◌<◌, drop, Option, Some, None, true, false, refl, sym, ap, subst, ◌∙◌}
use Rattle.std.specs.Option.{is_some, IfSome}
use Rattle.locus_ids.specs.Sizes.{sites_max}
use Rattle.locus_ids.specs.declared.config.Config.{Config}
use Rattle.trace_book.specs.declared.record.Record.TheVariants as says
use Rattle.role_steps.specs.Views.{Ticks, all_sites}
use Rattle.role_steps.proofs.Numbers.{next_site}
use Rattle.the_run.specs.Worlds.{World, Limit, Numbered, happens, says_only}
use Rattle.the_run.specs.Runs.{packet_at, next_packet, next_packet_of, arrives, goes_round, ends_round, delivers, ticks_to}
use Rattle.packet_mail.specs.Posts.{number_in}
use Rattle.world.specs.States.{WorldState}
use Rattle.world.specs.Shown.{Taken, Shows, Follows}
use Rattle.world.specs.Listed.{next_number}

-- the worlds that the start shows are led to such ones that what is left of the round ends as the whole one
abbrev pub Rests : (Config → World → World) → (Config → World → World) → WorldState → WorldState → Type 0
Rests rest whole start now = (c : Config) (taken : Taken) (w : World) → Shows c taken w start → (v : World) × (Shows c taken v now × (rest c v ≡ whole c w))

pub rests_first : (whole : Config → World → World) (x : WorldState) → Rests whole whole x x
rests_first whole x c taken w sh = (w, (sh, refl))

-- the rest does nothing
pub rests_done : (rest whole : Config → World → World) (x y : WorldState) → Rests rest whole x y → ((c : Config) (taken : Taken) (v : World) → Shows c taken v y → rest c v ≡ v) → Follows whole x y
rests_done rest whole x y h g c taken w sh =
    let k = h c taken w sh in
    subst (λ (u : World). Shows c taken u y) (sym (g c taken k.0 k.1.0) ∙ k.1.1) k.1.0

-- the rest is one thing more
pub rests_last : (rest whole : Config → World → World) (x y z : WorldState) → Rests rest whole x y → Follows rest y z → Follows whole x z
rests_last rest whole x y z h g c taken w sh =
    let k = h c taken w sh in
    subst (λ (u : World). Shows c taken u z) k.1.1 (g c taken k.0 k.1.0)

-- ---- ticks ----

-- one site more ticks
pub tick_more : (n at s : ℕ) (x y z : WorldState) → at < sites_max → s ≡ at + 1 → Rests (λ c w. ticks_to c n (drop at all_sites) w) (λ c w. ticks_to c n all_sites w) x y → Follows (λ c w. happens c n s Ticks w) y z → Rests (λ c w. ticks_to c n (drop (at + 1) all_sites) w) (λ c w. ticks_to c n all_sites w) x z
tick_more n at s x y z l e h g c taken w sh =
    let k = h c taken w sh in
    (happens c n s Ticks k.0, (g c taken k.0 k.1.0, ap (λ i. ticks_to c n (drop (at + 1) all_sites) (happens c n i Ticks k.0)) e ∙ (sym (ap (λ ss. ticks_to c n ss k.0) (next_site at l)) ∙ k.1.1)))

-- ---- deliveries ----

pub within_limits : (v : World) (u : Numbered) (o : Option Limit) → next_packet_of v o ≡ Some u → o ≡ None
within_limits v u (Some l) e = absurd (cc)
within_limits v u None e = refl

pub found : (q : Option Numbered) (k : ℕ) → number_in q ≡ Some k → (u : Numbered) × ((q ≡ Some u) × (u.number ≡ k))
found None k e = absurd (cc)
found (Some u) k e = (u, (refl, cc))

none_found : (q : Option Numbered) → is_some (number_in q) ≡ false → q ≡ None
none_found None e = refl
none_found (Some u) e = absurd (cc)

-- whatever world is shown, after the change the packet of this number has arrived in it
abbrev pub Arrives : ℕ → ℕ → WorldState → WorldState → Type 0
Arrives n k y z = (u : Numbered) (c : Config) (taken : Taken) (w : World) → w.over ≡ None → packet_at w k ≡ Some u → Shows c taken w y → Shows c taken (arrives c n u w) z

-- one packet more is delivered
pub deliver_more : (n budget left less k : ℕ) (x y z : WorldState) (r : Option ℕ) → left ≡ suc less → r ≡ Some k → ((c : Config) (taken : Taken) (w : World) → Shows c taken w y → next_number w ≡ r) → ((c : Config) (taken : Taken) (w : World) → Shows c taken w y → IfSome (next_packet w) (λ u. packet_at w u.number ≡ Some u)) → Arrives n k y z → Rests (λ c w. delivers c n left w) (λ c w. delivers c n budget w) x y → Rests (λ c w. delivers c n less w) (λ c w. delivers c n budget w) x z
deliver_more n budget left less k x y z r el er next known arrive h c taken w sh =
    let b = h c taken w sh in
    let v : World = b.0 in
    let f = found (next_packet v) k (next c taken v b.1.0 ∙ er) in
    let u : Numbered = f.0 in
    let sent : packet_at v u.number ≡ Some u = let i = known c taken v b.1.0 in subst (λ (q : Option Numbered). IfSome q (λ t. packet_at v t.number ≡ Some t)) f.1.0 i in
    let sent' : packet_at v k ≡ Some u = subst (λ (j : ℕ). packet_at v j ≡ Some u) f.1.1 sent in
    let step : delivers c n left v ≡ delivers c n less (arrives c n u v) =
    ap (λ i. delivers c n i v) el ∙ ap (goes_round c n (delivers c n less) v) f.1.0 in
    (arrives c n u v, (arrive u c taken v (within_limits v u v.over f.1.0) sent' b.1.0, sym step ∙ b.1.1))

-- there is no packet that can be delivered
pub deliver_none : (n budget left : ℕ) (x y : WorldState) (r : Option ℕ) → is_some r ≡ false → ((c : Config) (taken : Taken) (w : World) → Shows c taken w y → next_number w ≡ r) → Rests (λ c w. delivers c n left w) (λ c w. delivers c n budget w) x y → Follows (λ c w. delivers c n budget w) x y
deliver_none n budget left x y r er next h = rests_done (λ c w. delivers c n left w) (λ c w. delivers c n budget w) x y h (λ c taken v sh. at c v left (none_found (next_packet v) (ap is_some (next c taken v sh) ∙ er))) where
  at : (c : Config) (v : World) (m : ℕ) → next_packet v ≡ None → delivers c n m v ≡ v
  at c v zero e = ap (ends_round n v) e
  at c v (suc m) e = ap (goes_round c n (delivers c n m) v) e

-- the budget is spent, and there is one more
pub deliver_end : (n budget left : ℕ) (x y z : WorldState) (r : Option ℕ) → left ≡ 0 → is_some r ≡ true → ((c : Config) (taken : Taken) (w : World) → Shows c taken w y → next_number w ≡ r) → Follows (λ c w. says_only n says.Budget w) y z → Rests (λ c w. delivers c n left w) (λ c w. delivers c n budget w) x y → Follows (λ c w. delivers c n budget w) x z
deliver_end n budget left x y z r el er next g h = rests_last (λ c w. delivers c n left w) (λ c w. delivers c n budget w) x y z h last where
  at : (c : Config) (taken : Taken) (v : World) (q : Option Numbered) → is_some (number_in q) ≡ true → Shows c taken (says_only n says.Budget v) z → Shows c taken (ends_round n v q) z
  at c taken v None e sh = absurd (cc)
  at c taken v (Some u) e sh = sh

  last : Follows (λ c w. delivers c n left w) y z
  last c taken v sh = subst (λ (m : ℕ). Shows c taken (delivers c n m v) z) (sym el) (at c taken v (next_packet v) (ap is_some (next c taken v sh) ∙ er) (g c taken v sh))
