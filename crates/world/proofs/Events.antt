-- One event of the run, shown.
use Rattle.std.proofs.Common.{◌≡◌, ◌≢◌, ℕ, ◌+◌, ◌<◌, ◌≤◌, List, length, set, Option, Some, None, refl, sym, ap, subst, ◌∙◌}
use Rattle.locus_ids.specs.Sizes.{sites_max}
use Rattle.locus_ids.specs.declared.config.Config.{Config}
use Rattle.wire_messages.specs.declared.packet.Packet.{Packet}
use Rattle.role_steps.specs.Tables.{total}
use Rattle.role_steps.specs.Views.{Told}
use Rattle.site_frame.specs.Printed.{printed}
use Rattle.the_run.specs.Worlds.{World, Limit, place_at, script_of, packet_size, told_size, limit_passed, unless_over, happened_of, happened}
use Rattle.site_place.specs.Places.{PlaceState, Happening, led_to}
use Rattle.run_book.specs.Ledgers.{Ledger, books}
use Rattle.run_book.proofs.Kept.{event_kept, writing_kept}
use Rattle.world.specs.States.{WorldState, state_at, place_of}
use Rattle.world.specs.Shown.{Taken, IsSite, ShowsSites, Shows}
use Rattle.world.proofs.Tables.{split, state_put, state_other}
use Rattle.world.proofs.Changes.{Changes}

module _ (n : ℕ) (ps : List Packet) (told : List Told) (change : World → World) (w : World) where
  within_sites : (o : Option Limit) (a b t : ℕ) (y : WorldState) → ShowsSites (change w) y → (unless_over o n ps told change a b t w).over ≡ None → ShowsSites (unless_over o n ps told change a b t w) y
  within_sites (Some l) a b t y k e = absurd (cc)
  within_sites None a b t y k e = record { places = k.places; scripts = k.scripts; own = k.own; table = k.table; circuits = k.circuits }

  pub happened_sites : (o : Option Limit) (y : WorldState) → o ≡ None → ShowsSites (change w) y → (happened_of o n ps told change w).over ≡ None → ShowsSites (happened_of o n ps told change w) y
  happened_sites (Some l) y e k f = absurd (cc)
  happened_sites None y e k f = within_sites (limit_passed (w.packets + length ps) (w.bytes + total packet_size ps) (w.text + total (told_size n) told)) (w.packets + length ps) (w.bytes + total packet_size ps) (w.text + total (told_size n) told) y k f

-- where a limit was passed nothing happens
pub over_happened : (n : ℕ) (ps : List Packet) (told : List Told) (change : World → World) (w : World) (l : Limit) → w.over ≡ Some l → happened n ps told change w ≡ w
over_happened n ps told change w l e = ap (λ o. happened_of o n ps told change w) e

-- the same site of the same cluster
pub own_along : (c d : Config) (s : ℕ) (p : PlaceState) → d ≡ c → IsSite c s p → IsSite d s p
own_along c d s p same is = record { site = is.site; config = is.config ∙ sym same }

-- an event that changes no site
pub event_alone : (c : Config) (taken : Taken) (w : World) (x y : WorldState) (n : ℕ) (ps : List Packet) (told : List Told) → Shows c taken w x → y.config ≡ x.config → y.places ≡ x.places → y.circuits ≡ x.circuits → y.book ≡ books n ps (printed told) x.book → Shows c taken (happened n ps told (λ now. now) w) y
event_alone c taken w x y n ps told sh ec ep ek eb = record {
  config = ec ∙ sh.config;
  writing = ap (λ (b : Ledger). b.writing) eb ∙ (writing_kept n ps (printed told) x.book ∙ sh.writing);
  book = rw eb (event_kept n ps told (λ now. now) taken.bytes w x.book (record { post = refl; over = refl }) sh.book);
  sites = at w.over refl;
} where
  same : ShowsSites w x → ShowsSites w y
  same k = record {
    places = λ s l m. k.places s l m ∙ ap (λ (xs : List PlaceState). place_of (state_at xs s)) (sym ep);
    scripts = λ s p e. k.scripts s p (ap (λ (xs : List PlaceState). state_at xs s) (sym ep) ∙ e);
    own = λ s p e. own_along x.config y.config s p ec (k.own s p (ap (λ (xs : List PlaceState). state_at xs s) (sym ep) ∙ e));
    table = k.table;
    circuits = k.circuits ∙ sym ek;
  }

  at : (o : Option Limit) → w.over ≡ o → (happened_of w.over n ps told (λ now. now) w).over ≡ None → ShowsSites (happened_of w.over n ps told (λ now. now) w) y
  at (Some l) e = λ f. let g : (happened_of w.over n ps told (λ now. now) w).over ≡ Some l = ap (λ (v : World). v.over) (over_happened n ps told (λ now. now) w l e) ∙ e in absurd (cc)
  at None e = happened_sites n ps told (λ now. now) w w.over y e (same (sh.sites e))

-- an event of one site
pub event_shown : (c : Config) (taken : Taken) (w : World) (x y : WorldState) (n s at : ℕ) (p : PlaceState) (h : Happening) (change : World → World) → w.over ≡ None → Shows c taken w x → s ≡ at + 1 → at < length x.places → state_at x.places s ≡ Some p → Changes s h.place h.armed w (change w) → y.config ≡ x.config → y.places ≡ set x.places at (led_to h p) → y.circuits ≡ x.circuits → y.book ≡ books n h.sent (printed h.told) x.book → Shows c taken (happened n h.sent h.told change w) y
event_shown c taken w x y n s at p h change o sh e l found ch ec ep ek eb = record {
  config = ec ∙ sh.config;
  writing = ap (λ (b : Ledger). b.writing) eb ∙ (writing_kept n h.sent (printed h.told) x.book ∙ sh.writing);
  book = rw eb (event_kept n h.sent h.told change taken.bytes w x.book ch.elsewhere sh.book);
  sites = happened_sites n h.sent h.told change w w.over y o after;
} where
  k : ShowsSites w x
  k = sh.sites o

  here : state_at y.places s ≡ Some (led_to h p)
  here = ap (λ (xs : List PlaceState). state_at xs s) ep ∙ state_put x.places s at (led_to h p) e l

  there : (t : ℕ) → t ≢ s → state_at y.places t ≡ state_at x.places t
  there t ne = ap (λ (xs : List PlaceState). state_at xs t) ep ∙ state_other x.places s t at (led_to h p) e ne

  place : (t : ℕ) → 1 ≤ t → t ≤ sites_max → place_at (change w) t ≡ place_of (state_at y.places t)
  place t a b = split t s
      (λ f. ap (place_at (change w)) f ∙ (ch.place_here ∙ sym (ap (λ i. place_of (state_at y.places i)) f ∙ ap place_of here)))
      (λ f. ch.place_there t f ∙ (k.places t a b ∙ ap place_of (sym (there t f))))

  -- what is found at the site is the site after the event
  is_led : (t : ℕ) (q : PlaceState) → t ≡ s → state_at y.places t ≡ Some q → led_to h p ≡ q
  is_led t q f g = let i : Some (led_to h p) ≡ Some q = sym (ap (λ i. state_at y.places i) f ∙ here) ∙ g in cc

  script : (t : ℕ) (q : PlaceState) → state_at y.places t ≡ Some q → script_of (change w) t ≡ q.armed
  script t q g = split t s
      (λ f. ap (script_of (change w)) f ∙ (ch.script_here ∙ ap (λ (z : PlaceState). z.armed) (is_led t q f g)))
      (λ f. ch.script_there t f ∙ k.scripts t q (sym (there t f) ∙ g))

  own : (t : ℕ) (q : PlaceState) → state_at y.places t ≡ Some q → IsSite y.config t q
  own t q g = own_along x.config y.config t q ec (split t s
      (λ f. subst (λ (z : PlaceState). IsSite x.config t z) (is_led t q f g) (let i = k.own s p found in record { site = i.site ∙ sym f; config = i.config }))
      (λ f. k.own t q (sym (there t f) ∙ g)))

  after : ShowsSites (change w) y
  after = record { places = place; scripts = script; own = own; table = ch.table; circuits = ch.circuits ∙ (k.circuits ∙ sym ek) }
