-- What the world in code answers of the world that is shown, and what an event of a site does to it.
use Rattle.std.proofs.Common.{◌≡◌, ℕ, ◌+◌, ◌<◌, ◌≤◌, ◌==◌, List, [], length, map, set, Option, Some, None, Bool, true, false, not, ◌&&◌, cond, refl, sym, ap, subst, ◌∙◌, arith}
use Rattle.std.specs.List.{list_any}
use Rattle.locus_ids.specs.Sizes.{sites_max}
use Rattle.locus_ids.specs.declared.config.Config.{Config}
use Rattle.locus_ids.specs.declared.sites.Links.{Links}
use Rattle.wire_messages.specs.declared.packet.Packet.{Packet}
use Rattle.wire_messages.specs.Outboxes.{Outgoing}
use Rattle.trace_book.specs.declared.record.Record.{Record}
use Rattle.role_steps.specs.Views.{Event, all_sites}
use Rattle.role_steps.proofs.Numbers.{site_found}
use Rattle.site_frame.specs.Printed.{printed}
use Rattle.the_run.specs.Disks.{Armed, Booted, Whole, CutOff, boots}
use Rattle.the_run.specs.Steps.{step}
use Rattle.the_run.specs.Worlds.{World, Limit, Place, Running, Stopped, CutCircuit, place_at, script_of, boot_of, is_between, link_of, links_of, is_up, voids, happens_at, happens}
use Rattle.the_run.specs.Runs.{is_stopped, unless_void, stops_line, boots_line}
use Rattle.circuits.specs.Circuits.{reached_boot, reached_boots, is_up_among, boot_in}
use Rattle.circuits.proofs.Cuts.{of_all_sites}
use Rattle.site_place.specs.Places.{PlaceState, Happening, Gives, led_to, acts_in, happens_in, happens_at as happens_place, stops_at, stops_in, boots_to, boots_at as boots_place, boots_in}
use Rattle.run_book.proofs.Kept.{writing_kept}
use Rattle.run_book.specs.Ledgers.{Ledger, Keeps, books, books_of}
use Rattle.world.specs.States.{WorldState, state_at, place_of, boot_at, boots_of}
use Rattle.world.specs.Shown.{Taken, IsSite, ShowsSites, Shows, Follows, FollowsWithin, Answers}
use Rattle.world.proofs.Tables.{key_found}
use Rattle.world.proofs.Events.{event_shown}
use Rattle.world.proofs.Acting.{acts_lead, stop_leads, boot_leads, boots_none, boots_some}
use Rattle.world.proofs.Over.{happens_over}

up_same : (a b p p' q q' : ℕ) (u u' : List CutCircuit) → p ≡ p' → q ≡ q' → u ≡ u' → (not (p == 0) && (not (q == 0) && not (list_any (is_between a b) u))) ≡ (not (p' == 0) && (not (q' == 0) && not (list_any (is_between a b) u')))
up_same a b p p' q q' u u' e f g = rw (e, f, g) refl

link_same : (a b p p' : ℕ) (u u' : List CutCircuit) → p ≡ p' → u ≡ u' → cond (list_any (is_between a b) u) 0 p ≡ cond (list_any (is_between a b) u') 0 p'
link_same a b p p' u u' e f = rw (e, f) refl

module _ (w : World) (x : WorldState) (k : ShowsSites w x) where
  boot_same : (t : ℕ) → 1 ≤ t → t ≤ sites_max → boot_of (place_at w t) ≡ boot_in (boots_of x.places) t
  boot_same t a b = ap boot_of (k.places t a b) ∙ sym (site_found (boot_at x.places) t a b)

  link_is : (s t : ℕ) → 1 ≤ t → t ≤ sites_max → link_of w s t ≡ reached_boot x.circuits (boots_of x.places) s t
  link_is s t a b = link_same s t (boot_of (place_at w t)) (boot_in (boots_of x.places) t) w.circuits x.circuits (boot_same t a b) k.circuits

  pub links_are : (s : ℕ) → links_of w s ≡ reached_boots x.circuits (boots_of x.places) s
  links_are s = ap (λ (b : List ℕ). record { boot = b }) (of_all_sites (reached_boot x.circuits (boots_of x.places) s) (map (link_of w s) all_sites) refl (λ t a b. site_found (link_of w s) t a (omega arith) ∙ link_is s t a (omega arith)))

  pub up_is : (a b : ℕ) → 1 ≤ a → a ≤ sites_max → 1 ≤ b → b ≤ sites_max → is_up w a b ≡ is_up_among x.circuits (boots_of x.places) a b
  up_is a b la ha lb hb = up_same a b (boot_of (place_at w a)) (boot_in (boots_of x.places) a) (boot_of (place_at w b)) (boot_in (boots_of x.places) b) w.circuits x.circuits (boot_same a la ha) (boot_same b lb hb) k.circuits

pub links_answer : (x : WorldState) (s : ℕ) (boots : List ℕ) (r : Links) → boots ≡ boots_of x.places → r ≡ reached_boots x.circuits boots s → Answers (λ w. links_of w s) x r
links_answer x s boots r eb er c taken w e sh = links_are w x (sh.sites e) s ∙ (ap (λ b. reached_boots x.circuits b s) (sym eb) ∙ sym er)

pub up_answer : (x : WorldState) (a b p q : ℕ) (cut r : Bool) → Answers (λ w. boot_of (place_at w a)) x p → Answers (λ w. boot_of (place_at w b)) x q → cut ≡ list_any (is_between a b) x.circuits → r ≡ (not (p == 0) && (not (q == 0) && not cut)) → Answers (λ w. is_up w a b) x r
up_answer x a b p q cut r hp hq hc hr c taken w e sh =
    up_same a b (boot_of (place_at w a)) p (boot_of (place_at w b)) q w.circuits x.circuits (hp c taken w e sh) (hq c taken w e sh) (sh.sites e).circuits
    ∙ (ap (λ z. not (p == 0) && (not (q == 0) && not z)) (sym hc) ∙ sym hr)

-- ---- void lines ----

pub unless_yes : (n : ℕ) (f : World → World) (b : Bool) (w : World) (P : World → Type 0) → b ≡ true → P (voids n w) → P (unless_void n b f w)
unless_yes n f true w P e h = h
unless_yes n f false w P e h = absurd (cc)

pub unless_no : (n : ℕ) (f : World → World) (b : Bool) (w : World) (P : World → Type 0) → b ≡ false → P (f w) → P (unless_void n b f w)
unless_no n f true w P e h = absurd (cc)
unless_no n f false w P e h = h

-- the line is void or not, as the world answers
pub unless_asked : (n : ℕ) (test : World → Bool) (f : Config → World → World) (b : Bool) (x y : WorldState) → Answers test x b → Follows (λ c w. unless_void n b (f c) w) x y → FollowsWithin (λ c w. unless_void n (test w) (f c) w) x y
unless_asked n test f b x y h g c taken w e sh = subst (λ (t : Bool). Shows c taken (unless_void n t (f c) w) y) (sym (h c taken w e sh)) (g c taken w sh)

pub void_asked : (n : ℕ) (test : World → Bool) (f : Config → World → World) (b : Bool) (x y : WorldState) → Answers test x b → b ≡ true → Follows (λ c w. voids n w) x y → FollowsWithin (λ c w. unless_void n (test w) (f c) w) x y
void_asked n test f b x y h t g c taken w e sh = unless_yes n (f c) (test w) w (λ v. Shows c taken v y) (h c taken w e sh ∙ t) (g c taken w sh)

pub done_asked : (n : ℕ) (test : World → Bool) (f : Config → World → World) (b : Bool) (x y : WorldState) → Answers test x b → b ≡ false → FollowsWithin f x y → FollowsWithin (λ c w. unless_void n (test w) (f c) w) x y
done_asked n test f b x y h t g c taken w e sh = unless_no n (f c) (test w) w (λ v. Shows c taken v y) (h c taken w e sh ∙ t) (g c taken w e sh)

-- ---- events of a site ----

-- a site of the world in code after a happening, and the book with what it sent and told
pub record Noted (x y : WorldState) (n at : ℕ) (p : PlaceState) (h : Happening) : Type 0 where
  pub config : y.config ≡ x.config
  pub places : y.places ≡ set x.places at (led_to h p)
  pub circuits : y.circuits ≡ x.circuits
  pub book : y.book ≡ books n h.sent (printed h.told) x.book

pub noted : (x y : WorldState) (n at : ℕ) (p q : PlaceState) (h : Happening) (out : Outgoing) → Gives h p q out → y.config ≡ x.config → y.places ≡ set x.places at q → y.circuits ≡ x.circuits → y.book ≡ books n out.packets out.records x.book → Noted x y n at p h
noted x y n at p q h out g ec ep ek eb = record {
  config = ec;
  places = ep ∙ ap (set x.places at) g.state;
  circuits = ek;
  book = eb ∙ (ap (λ (ps : List Packet). books n ps out.records x.book) g.packets ∙ ap (λ (rs : List Record). books n h.sent rs x.book) g.records);
}

-- a limit was passed, and the event is no event
over_stays : (c : Config) (taken : Taken) (w : World) (x y : WorldState) (n at : ℕ) (p : PlaceState) (h : Happening) (l : Limit) → w.over ≡ Some l → Noted x y n at p h → Shows c taken w x → Shows c taken w y
over_stays c taken w x y n at p h l e k sh = record {
  config = k.config ∙ sh.config;
  writing = ap (λ (b : Ledger). b.writing) k.book ∙ (writing_kept n h.sent (printed h.told) x.book ∙ sh.writing);
  book = subst (λ (b : Ledger). Keeps taken.bytes w b) (sym (k.book ∙ ap (λ o. books_of o n h.sent (printed h.told) x.book) (sh.book.over ∙ e))) sh.book;
  sites = λ f. absurd (cc);
}

module _ (n s at : ℕ) (x y : WorldState) (low : 1 ≤ s) (high : s ≤ sites_max) (is : s ≡ at + 1) (within : at < length x.places) (p : PlaceState) (found : state_at x.places s ≡ Some p) where
  running : (c : Config) (e : Event) (links : Links) (taken : Taken) (w : World) → w.over ≡ None → Shows c taken w x → links_of w s ≡ links → (q : Place) → p.place ≡ q → is_stopped (Some q) ≡ false → Noted x y n at p (happens_place c s links e p.armed q) → Shows c taken (happens_at c n s e (Some q) w) y
  running c e links taken w o sh el (Stopped d) ep st k = absurd (cc)
  running c e links taken w o sh el (Running v) ep st k =
      let sites = sh.sites o in
      let out = step c s (links_of w s) v e in
      let k' : Noted x y n at p (acts_in s v out out.written p.armed) = subst (λ (z : Links). Noted x y n at p (acts_in s v (step c s z v e) (step c s z v e).written p.armed)) (sym el) k in
      acts_lead n s w sites.table (λ u. Shows c taken u y) v out out.written p.armed (sites.scripts s p found) (λ change ch. event_shown c taken w x y n s at p (acts_in s v out out.written p.armed) change o sh is within found ch k'.config k'.places k'.circuits k'.book)

  -- the site's number and cluster are those of the world
  own_event : (c : Config) (e : Event) (links : Links) → IsSite c s p → Noted x y n at p (happens_in links e p) → Noted x y n at p (happens_place c s links e p.armed p.place)
  own_event c e links own k =
      subst (λ (z : Config). Noted x y n at p (happens_place z s links e p.armed p.place)) own.config
      (subst (λ (t : ℕ). Noted x y n at p (happens_place p.config t links e p.armed p.place)) own.site k)

  pub happen_follows : (e : Event) (links : Links) → is_stopped (Some p.place) ≡ false → Answers (λ w. links_of w s) x links → Noted x y n at p (happens_in links e p) → Follows (λ c w. happens c n s e w) x y
  happen_follows e links st el k c taken w sh = cases w.over refl where
    cases : (o : Option Limit) → w.over ≡ o → Shows c taken (happens c n s e w) y
    cases (Some l) eo = subst (λ (u : World). Shows c taken u y) (sym (happens_over c n l s e w eo)) (over_stays c taken w x y n at p (happens_in links e p) l eo k sh)
    cases None eo =
        let there : place_at w s ≡ Some p.place = (sh.sites eo).places s low high ∙ ap place_of found in
        let own = (sh.sites eo).own s p found in
        let k' = own_event c e links (record { site = own.site; config = own.config ∙ sh.config }) k in
        subst (λ (q : Option Place). Shows c taken (happens_at c n s e q w) y) (sym there) (running c e links taken w eo sh (el c taken w eo sh) p.place refl st k')

  -- ---- a stop and a boot ----

  stopping : (c : Config) (taken : Taken) (w : World) → w.over ≡ None → Shows c taken w x → (q : Place) → is_stopped (Some q) ≡ false → Noted x y n at p (stops_at s p.armed q) → Shows c taken (stops_line n s (Some q) w) y
  stopping c taken w o sh (Stopped d) st k = absurd (cc)
  stopping c taken w o sh (Running v) st k =
      stop_leads n s w (sh.sites o).table (λ u. Shows c taken u y) v p.armed (λ change ch. event_shown c taken w x y n s at p (stops_at s p.armed (Running v)) change o sh is within found ch k.config k.places k.circuits k.book)

  pub stop_follows : is_stopped (Some p.place) ≡ false → Noted x y n at p (stops_in p) → FollowsWithin (λ c w. stops_line n s (place_at w s) w) x y
  stop_follows st k c taken w o sh =
      let there : place_at w s ≡ Some p.place = (sh.sites o).places s low high ∙ ap place_of found in
      let k' : Noted x y n at p (stops_at s p.armed p.place) = subst (λ (t : ℕ). Noted x y n at p (stops_at t p.armed p.place)) ((sh.sites o).own s p found).site k in
      subst (λ (q : Option Place). Shows c taken (stops_line n s q w) y) (sym there) (stopping c taken w o sh p.place st k')

  starting : (c : Config) (taken : Taken) (w : World) → w.over ≡ None → Shows c taken w x → (q : Place) → is_stopped (Some q) ≡ true → Noted x y n at p (boots_place s p.armed q) → Shows c taken (boots_line n s (Some q) w) y
  starting c taken w o sh (Running v) st k = absurd (cc)
  starting c taken w o sh (Stopped d) st k =
      let sites = sh.sites o in
      let script : script_of w s ≡ p.armed = sites.scripts s p found in
      let k' : Noted x y n at p (boots_to s (boots (script_of w s) d)) = subst (λ (a : Option Armed). Noted x y n at p (boots_to s (boots a d))) (sym script) k in
      boot_leads n s w sites.table (λ u. Shows c taken u y) (boots (script_of w s) d)
      (λ d' b. boots_none (script_of w s) d d' b)
      (λ d' a b. boots_some s (script_of w s) d d' a (λ a' f. key_found _ s w.armed a' f) b)
      (λ change ch. event_shown c taken w x y n s at p (boots_to s (boots (script_of w s) d)) change o sh is within found ch k'.config k'.places k'.circuits k'.book)

  pub start_follows : is_stopped (Some p.place) ≡ true → Noted x y n at p (boots_in p) → FollowsWithin (λ c w. boots_line n s (place_at w s) w) x y
  start_follows st k c taken w o sh =
      let there : place_at w s ≡ Some p.place = (sh.sites o).places s low high ∙ ap place_of found in
      let k' : Noted x y n at p (boots_place s p.armed p.place) = subst (λ (t : ℕ). Noted x y n at p (boots_place t p.armed p.place)) ((sh.sites o).own s p found).site k in
      subst (λ (q : Option Place). Shows c taken (boots_line n s q w) y) (sym there) (starting c taken w o sh p.place st k')

-- a stop and a boot send nothing
pub stop_sends_none : (h : Happening) (p q : PlaceState) (out : Outgoing) → h ≡ stops_in p → Gives h p q out → out.packets ≡ []
stop_sends_none h p q out is g = g.packets ∙ (ap (λ (k : Happening). k.sent) is ∙ at p.place) where
  at : (place : Place) → (stops_at p.site p.armed place).sent ≡ []
  at (Stopped d) = refl
  at (Running v) = refl

booted_none : (s : ℕ) (b : Booted) → (boots_to s b).sent ≡ []
booted_none s (Whole d a) = refl
booted_none s (CutOff d how) = refl

pub boot_sends_none : (h : Happening) (p q : PlaceState) (out : Outgoing) → h ≡ boots_in p → Gives h p q out → out.packets ≡ []
boot_sends_none h p q out is g = g.packets ∙ (ap (λ (k : Happening). k.sent) is ∙ at p.place) where
  at : (place : Place) → (boots_place p.site p.armed place).sent ≡ []
  at (Stopped d) = booted_none p.site (boots p.armed d)
  at (Running v) = refl

-- ---- sites that aren't there, or don't run, or run ----

pub void_follows : (n : ℕ) (f : Config → World → World) (b : Bool) (x y : WorldState) → b ≡ true → Follows (λ c w. voids n w) x y → Follows (λ c w. unless_void n b (f c) w) x y
void_follows n f b x y e h c taken w sh = unless_yes n (f c) b w (λ v. Shows c taken v y) e (h c taken w sh)

pub done_follows : (n : ℕ) (f : Config → World → World) (b : Bool) (x y : WorldState) → b ≡ false → Follows f x y → Follows (λ c w. unless_void n b (f c) w) x y
done_follows n f b x y e h c taken w sh = unless_no n (f c) b w (λ v. Shows c taken v y) e (h c taken w sh)

module _ (s : ℕ) (x : WorldState) (low : 1 ≤ s) (high : s ≤ sites_max) where
  absent_place : (w : World) → ShowsSites w x → state_at x.places s ≡ None → place_at w s ≡ None
  absent_place w k e = k.places s low high ∙ ap place_of e

  there_place : (w : World) → ShowsSites w x → (p : PlaceState) → state_at x.places s ≡ Some p → place_at w s ≡ Some p.place
  there_place w k p e = k.places s low high ∙ ap place_of e

  -- nothing happens at a site that isn't there
  pub happen_absent : (n : ℕ) (e : Event) → state_at x.places s ≡ None → Follows (λ c w. happens c n s e w) x x
  happen_absent n e h c taken w sh = cases w.over refl where
    cases : (o : Option Limit) → w.over ≡ o → Shows c taken (happens c n s e w) x
    cases (Some l) eo = subst (λ (u : World). Shows c taken u x) (sym (happens_over c n l s e w eo)) sh
    cases None eo = subst (λ (q : Option Place). Shows c taken (happens_at c n s e q w) x) (sym (absent_place w (sh.sites eo) h)) sh

  stopped_same : (c : Config) (n : ℕ) (e : Event) (w : World) (q : Place) → is_stopped (Some q) ≡ true → happens_at c n s e (Some q) w ≡ w
  stopped_same c n e w (Stopped d) t = refl
  stopped_same c n e w (Running v) t = absurd (cc)

  -- nor at one that doesn't run
  pub happen_stopped : (n : ℕ) (e : Event) (p : PlaceState) → state_at x.places s ≡ Some p → is_stopped (Some p.place) ≡ true → Follows (λ c w. happens c n s e w) x x
  happen_stopped n e p h t c taken w sh = cases w.over refl where
    cases : (o : Option Limit) → w.over ≡ o → Shows c taken (happens c n s e w) x
    cases (Some l) eo = subst (λ (u : World). Shows c taken u x) (sym (happens_over c n l s e w eo)) sh
    cases None eo = subst (λ (u : World). Shows c taken u x) (sym (ap (λ q. happens_at c n s e q w) (there_place w (sh.sites eo) p h) ∙ stopped_same c n e w p.place t)) sh

  -- a stop of such a site is void
  pub stop_absent : (n : ℕ) (y : WorldState) → state_at x.places s ≡ None → Follows (λ c w. voids n w) x y → FollowsWithin (λ c w. stops_line n s (place_at w s) w) x y
  stop_absent n y h g c taken w o sh = subst (λ (q : Option Place). Shows c taken (stops_line n s q w) y) (sym (absent_place w (sh.sites o) h)) (g c taken w sh)

  stopped_void : (n : ℕ) (w : World) (q : Place) → is_stopped (Some q) ≡ true → stops_line n s (Some q) w ≡ voids n w
  stopped_void n w (Stopped d) t = refl
  stopped_void n w (Running v) t = absurd (cc)

  pub stop_stopped : (n : ℕ) (y : WorldState) (p : PlaceState) → state_at x.places s ≡ Some p → is_stopped (Some p.place) ≡ true → Follows (λ c w. voids n w) x y → FollowsWithin (λ c w. stops_line n s (place_at w s) w) x y
  stop_stopped n y p h t g c taken w o sh = subst (λ (u : World). Shows c taken u y) (sym (ap (λ q. stops_line n s q w) (there_place w (sh.sites o) p h) ∙ stopped_void n w p.place t)) (g c taken w sh)

  -- and a boot of one that isn't there, or runs
  pub boot_absent : (n : ℕ) (y : WorldState) → state_at x.places s ≡ None → Follows (λ c w. voids n w) x y → FollowsWithin (λ c w. boots_line n s (place_at w s) w) x y
  boot_absent n y h g c taken w o sh = subst (λ (q : Option Place). Shows c taken (boots_line n s q w) y) (sym (absent_place w (sh.sites o) h)) (g c taken w sh)

  running_void : (n : ℕ) (w : World) (q : Place) → is_stopped (Some q) ≡ false → boots_line n s (Some q) w ≡ voids n w
  running_void n w (Stopped d) t = absurd (cc)
  running_void n w (Running v) t = refl

  pub boot_running : (n : ℕ) (y : WorldState) (p : PlaceState) → state_at x.places s ≡ Some p → is_stopped (Some p.place) ≡ false → Follows (λ c w. voids n w) x y → FollowsWithin (λ c w. boots_line n s (place_at w s) w) x y
  boot_running n y p h t g c taken w o sh = subst (λ (u : World). Shows c taken u y) (sym (ap (λ q. boots_line n s q w) (there_place w (sh.sites o) p h) ∙ running_void n w p.place t)) (g c taken w sh)
