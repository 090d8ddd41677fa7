-- Which fault may come where each event finds what it needs.
use Rattle.std.proofs.Common.{◌≡◌, ◌≤◌, ◌<◌, ◌+◌, ◌-◌, ℕ, suc, nat_lt, Bool, true, false, List, ◌∷◌, drop, Option, None, Some, refl, sym, ap, subst, ◌∙◌}
use Rattle.std.specs.Prelude.{Result, Ok, Err, IfErr, IsErr, IsErrAnd}
use Rattle.std.specs.Option.{is_some, IfSome}
use Rattle.std.specs.List.{AllByRecursion}
use Rattle.locus_ids.specs.Sizes.{sites_max}
use Rattle.locus_ids.specs.declared.config.Config.{Config}
use Rattle.locus_ids.specs.declared.sites.Links.{Links}
use Rattle.schedule_lines.specs.declared.line.Line.{Line as LineWords}
use Rattle.schedule_lines.specs.declared.line.Line.TheVariants as line
use Rattle.packet_order.specs.Counts.{FitsIfCounted}
use Rattle.wire_messages.specs.Outboxes.{Outgoing}
use Rattle.wire_messages.specs.declared.packet.Packet.{Packet}
use Rattle.role_steps.specs.Views.{DiskWrite, Event, Outcome, Receives, SiteView, Ticks, all_sites}
use Rattle.role_steps.proofs.Numbers.{next_site}
use Rattle.the_run.specs.Disks.{Armed, write_calls}
use Rattle.the_run.specs.Runs.{arrives, is_stopped, next_packet, packet_at}
use Rattle.the_run.specs.Steps.{step}
use Rattle.the_run.specs.Worlds.{World, Place, Running, Stopped, Numbered, happens, links_of, place_at}
use Rattle.site_place.specs.of_site_packs.Packs.{groups_at}
use Rattle.site_place.specs.of_site_node.Fitting.{CanAct}
use Rattle.site_place.specs.Fitting.{CanHappenAt, CanHappenIn}
use Rattle.site_place.specs.Places.{Gives, Happening, PlaceState, acts_in, cut_in, disk_boot, happens_at as happens_place, happens_in, runs_in, writes_in}
use Rattle.site_place.specs.declared.fault.PlaceFault.{PlaceFault}
use Rattle.site_place.specs.declared.fault.PlaceFault.TheVariants as place
use Rattle.site_place.specs.declared.fault.StartFault.{StartFault}
use Rattle.site_place.specs.declared.fault.StartFault.TheVariants as start
use Rattle.run_book.specs.Ledgers.{limit_in}
use Rattle.run_book.specs.declared.fault.BookFault.{BookFault}
use Rattle.run_book.specs.declared.fault.BookFault.TheVariants as book
use Rattle.run_book.specs.declared.fault.Passed.{Passed}
use Rattle.complete_laws.specs.MomentEvents.{WhereDelivered, WhereNext, WhereTicks}
use Rattle.complete_laws.specs.Lines.{CanBoot, CanDo, CanHappen}
use Rattle.world.specs.Faults.{WantsMemory, WantsMemoryWithin, fault_of_book, fault_of_place, fault_of_start}
use Rattle.world.specs.Listed.{next_number}
use Rattle.world.specs.Shown.{Answers, Follows, Shows, Taken}
use Rattle.world.specs.States.{WorldState, place_of, state_at}
use Rattle.world.specs.declared.fault.WorldFault.{WorldFault}
use Rattle.world.specs.declared.fault.WorldFault.TheVariants.{NoMemory}
use Rattle.world.proofs.LineLaws.{always, where_over}
use Rattle.world.proofs.Over.{happens_over}
use Rattle.world.proofs.Rounds.{Arrives, found, within_limits}

-- ---- a fault that is given on ----

pub given_on : {T : Type 0} (Q : WorldFault → Type 0) (r : Result T WorldFault) (fault : WorldFault) → IsErr r × IsErrAnd r (λ e. e ≡ fault) → Q fault → IfErr r Q
given_on Q (Ok x) fault given q = tt
given_on Q (Err e) fault given q = subst Q (sym given.1) q

pub place_memory : (f : PlaceFault) → f ≡ place.NoMemory → fault_of_place f ≡ NoMemory
place_memory f e = ap fault_of_place e

-- only a packet can be unfit
pub book_memory : {T : Type 0} (P : Type 0) (f : BookFault) → (◌≡◌ {A = Result T BookFault} (Err f) (Err book.Unfit) → P → ⊥) → P → fault_of_book f ≡ NoMemory
book_memory P book.NoMemory unfit p = refl
book_memory P book.Unfit unfit p = absurd (unfit refl p)

-- a boot
pub start_memory : {T : Type 0} (P : Type 0) (f : StartFault) → (◌≡◌ {A = Result T StartFault} (Err f) (Err start.Spent) → P → ⊥) → P → fault_of_start f ≡ NoMemory
start_memory P start.NoMemory spent p = refl
start_memory P start.Spent spent p = absurd (spent refl p)

-- ---- an event of a site ----

-- where a limit was passed nothing happens
pub happen_passed : (n s : ℕ) (e : Event) (x : WorldState) (o : Option Passed) → limit_in o ≡ x.book.over → is_some o ≡ true → Follows (λ c w. happens c n s e w) x x
happen_passed n s e x o eo is c taken w sh = subst (λ (u : World). Shows c taken u x) (sym (where_over x (λ v. happens c n s e v ≡ v) o eo is (λ v l over. happens_over c n l s e v over) c taken w sh)) sh

pub not_over : (x : WorldState) (o : Option Passed) → limit_in o ≡ x.book.over → is_some o ≡ false → (c : Config) (taken : Taken) (w : World) → Shows c taken w x → w.over ≡ None
not_over x o eo is c taken w sh = always x (λ v. v.over ≡ None) o eo is (λ k t v e shown. e) c taken w sh

-- the site in code finds what the site in the world does
pub can_here : (s : ℕ) (x : WorldState) → 1 ≤ s → s ≤ sites_max → (p : PlaceState) → state_at x.places s ≡ Some p → (e : Event) (links : Links) → Answers (λ w. links_of w s) x links → (o : Option Passed) → limit_in o ≡ x.book.over → is_some o ≡ false
    → (c : Config) (taken : Taken) (w : World) → Shows c taken w x → CanHappen c s e w → CanHappenIn links e p
can_here s x low high p found e links el o eo is c taken w sh need =
    subst (λ (k : Config). CanHappenAt k p.site links e p.place) (sym (((sh.sites over).own s p found).config ∙ sh.config)) (subst (λ (t : ℕ). CanHappenAt c t links e p.place) (sym ((sh.sites over).own s p found).site) (at p.place refl))
  where
    over : w.over ≡ None
    over = not_over x o eo is c taken w sh

    there : place_at w s ≡ Some p.place
    there = (sh.sites over).places s low high ∙ ap place_of found

    at : (q : Place) → p.place ≡ q → CanHappenAt c s links e q
    at (Stopped d) is = tt
    at (Running v) is = subst (λ (z : Links). CanAct c s (groups_at c s) s z v e) (el c taken w over sh) (need v (there ∙ ap Some is))

-- what the event sends is of the format
pub sent_fit : (links : Links) (e : Event) (p q : PlaceState) (out : Outgoing) → Gives (happens_in links e p) p q out → CanHappenIn links e p → AllByRecursion FitsIfCounted out.packets
sent_fit links e p q out g can = subst (λ (ps : List Packet). AllByRecursion FitsIfCounted ps) (sym g.packets) (at p.place can)
  where
    armed : (v : SiteView) (o : Outcome SiteView) (d : DiskWrite) (a : Armed) (calls : ℕ) (b : Bool) → AllByRecursion FitsIfCounted o.sent → AllByRecursion FitsIfCounted (elim b as (λ (z : Bool). Happening) [ true ↦ cut_in p.site v d a | false ↦ runs_in o (Some (record a { left = a.left - calls })) ]).sent
    armed v o d a calls true h = tt
    armed v o d a calls false h = h

    writes : (v : SiteView) (o : Outcome SiteView) (d : DiskWrite) (a : Option Armed) → AllByRecursion FitsIfCounted o.sent → AllByRecursion FitsIfCounted (writes_in p.site v o d a).sent
    writes v o d None h = h
    writes v o d (Some a) h = armed v o d a (write_calls v.store d) (nat_lt a.left (write_calls v.store d)) h

    acts : (v : SiteView) (o : Outcome SiteView) (d : Option DiskWrite) (a : Option Armed) → AllByRecursion FitsIfCounted o.sent → AllByRecursion FitsIfCounted (acts_in p.site v o d a).sent
    acts v o None a h = h
    acts v o (Some d) a h = writes v o d a h

    at : (place : Place) → CanHappenAt p.config p.site links e place → AllByRecursion FitsIfCounted (happens_place p.config p.site links e p.armed place).sent
    at (Stopped d) h = tt
    at (Running v) h = acts v (step p.config p.site links v e) (step p.config p.site links v e).written p.armed h.sending

-- ---- a round ----

-- what is left of a round finds what it needs, where the whole does
abbrev pub StillNeeds : (Config → World → Type 0) → (Config → World → Type 0) → WorldState → WorldState → Type 0
StillNeeds Need Whole start now = (c : Config) (taken : Taken) (w : World) → Shows c taken w start → Whole c w → (v : World) × (Shows c taken v now × Need c v)

pub needs_first : (Need : Config → World → Type 0) (x : WorldState) → StillNeeds Need Need x x
needs_first Need x c taken w sh need = (w, (sh, need))

pub tick_needs : (n at s : ℕ) (Whole : Config → World → Type 0) (x y z : WorldState) → at < sites_max → s ≡ at + 1 → StillNeeds (λ c w. WhereTicks (CanHappen c) c n (drop at all_sites) w) Whole x y → Follows (λ c w. happens c n s Ticks w) y z → StillNeeds (λ c w. WhereTicks (CanHappen c) c n (drop (at + 1) all_sites) w) Whole x z
tick_needs n at s Whole x y z l e h g c taken w sh whole =
    let k = h c taken w sh whole in
    let need : WhereTicks (CanHappen c) c n ((at + 1) ∷ drop (at + 1) all_sites) k.0 = subst (λ (ss : List ℕ). WhereTicks (CanHappen c) c n ss k.0) (next_site at l) k.1.1 in
    (happens c n (at + 1) Ticks k.0, (subst (λ (t : ℕ). Shows c taken (happens c n t Ticks k.0) z) e (g c taken k.0 k.1.0), need.1))

pub tick_wants : (n at s : ℕ) (Whole : Config → World → Type 0) (x y : WorldState) (fault : WorldFault) → at < sites_max → s ≡ at + 1 → StillNeeds (λ c w. WhereTicks (CanHappen c) c n (drop at all_sites) w) Whole x y → WantsMemory (λ c w. CanHappen c s Ticks w) y fault → WantsMemory Whole x fault
tick_wants n at s Whole x y fault l e h g c taken w sh whole =
    let k = h c taken w sh whole in
    let need : WhereTicks (CanHappen c) c n ((at + 1) ∷ drop (at + 1) all_sites) k.0 = subst (λ (ss : List ℕ). WhereTicks (CanHappen c) c n ss k.0) (next_site at l) k.1.1 in
    g c taken k.0 k.1.0 (subst (λ (t : ℕ). CanHappen c t Ticks k.0) (sym e) need.0)

abbrev Delivering : ℕ → ℕ → Config → World → Type 0
Delivering n left c w = WhereDelivered (CanHappen c) c n left w

-- what the next delivery needs, and the rest after it
next_needs : (n left less k : ℕ) (y : WorldState) (r : Option ℕ) → left ≡ suc less → r ≡ Some k → ((c : Config) (taken : Taken) (w : World) → Shows c taken w y → next_number w ≡ r) → ((c : Config) (taken : Taken) (w : World) → Shows c taken w y → IfSome (next_packet w) (λ u. packet_at w u.number ≡ Some u))
    → (c : Config) (taken : Taken) (v : World) → Shows c taken v y → Delivering n left c v → (u : Numbered) × ((v.over ≡ None) × ((packet_at v k ≡ Some u) × (CanHappen c u.packet.to (Receives u.packet) v × Delivering n less c (arrives c n u v))))
next_needs n left less k y r el er next known c taken v sh need =
    let f = found (next_packet v) k (next c taken v sh ∙ er) in
    let u : Numbered = f.0 in
    let sent : packet_at v u.number ≡ Some u = (let i = known c taken v sh in subst (λ (q : Option Numbered). IfSome q (λ t. packet_at v t.number ≡ Some t)) f.1.0 i) in
    let all : WhereNext (CanHappen c) c n (WhereDelivered (CanHappen c) c n less) v (next_packet v) = subst (λ (i : ℕ). WhereDelivered (CanHappen c) c n i v) el need in
    let one : WhereNext (CanHappen c) c n (WhereDelivered (CanHappen c) c n less) v (Some u) = subst (WhereNext (CanHappen c) c n (WhereDelivered (CanHappen c) c n less) v) f.1.0 all in
    (u, (within_limits v u v.over f.1.0, (subst (λ (j : ℕ). packet_at v j ≡ Some u) f.1.1 sent, (one.0, one.1))))

pub deliver_needs : (n left less k : ℕ) (Whole : Config → World → Type 0) (x y z : WorldState) (r : Option ℕ) → left ≡ suc less → r ≡ Some k → ((c : Config) (taken : Taken) (w : World) → Shows c taken w y → next_number w ≡ r) → ((c : Config) (taken : Taken) (w : World) → Shows c taken w y → IfSome (next_packet w) (λ u. packet_at w u.number ≡ Some u))
    → Arrives n k y z → StillNeeds (λ c w. WhereDelivered (CanHappen c) c n left w) Whole x y → StillNeeds (λ c w. WhereDelivered (CanHappen c) c n less w) Whole x z
deliver_needs n left less k Whole x y z r el er next known arrive h c taken w sh whole =
    let b = h c taken w sh whole in
    let one = next_needs n left less k y r el er next known c taken b.0 b.1.0 b.1.1 in
    (arrives c n one.0 b.0, (arrive one.0 c taken b.0 one.1.0 one.1.1.0 b.1.0, one.1.1.1.1))

pub deliver_wants : (n left less k : ℕ) (Whole : Config → World → Type 0) (x y : WorldState) (r : Option ℕ) (fault : WorldFault) → left ≡ suc less → r ≡ Some k → ((c : Config) (taken : Taken) (w : World) → Shows c taken w y → next_number w ≡ r) → ((c : Config) (taken : Taken) (w : World) → Shows c taken w y → IfSome (next_packet w) (λ u. packet_at w u.number ≡ Some u))
    → ((u : Numbered) → WantsMemoryWithin (λ c w. (packet_at w k ≡ Some u) × CanHappen c u.packet.to (Receives u.packet) w) y fault) → StillNeeds (λ c w. WhereDelivered (CanHappen c) c n left w) Whole x y → WantsMemory Whole x fault
deliver_wants n left less k Whole x y r fault el er next known wants h c taken w sh whole =
    let b = h c taken w sh whole in
    let one = next_needs n left less k y r el er next known c taken b.0 b.1.0 b.1.1 in
    wants one.0 c taken b.0 one.1.0 b.1.0 (one.1.1.0, one.1.1.1.0)

-- ---- lines ----

-- what is needed of another line, or more
pub wants_more : {T : Type 0} (A B : Config → World → Type 0) (r : Result T WorldFault) (x : WorldState) → ((c : Config) (w : World) → B c w → A c w) → IfErr r (WantsMemoryWithin A x) → IfErr r (WantsMemoryWithin B x)
wants_more A B (Ok y) x f h = tt
wants_more A B (Err e) x f h = λ c taken w o sh b. h c taken w o sh (f c w b)

pub wants_always : {T : Type 0} (A B : Config → World → Type 0) (r : Result T WorldFault) (x : WorldState) → ((c : Config) (w : World) → B c w → A c w) → IfErr r (WantsMemory A x) → IfErr r (WantsMemoryWithin B x)
wants_always A B (Ok y) x f h = tt
wants_always A B (Err e) x f h = λ c taken w o sh b. h c taken w sh (f c w b)

pub line_wants : {T : Type 0} (r : Result T WorldFault) (n : ℕ) (l m : LineWords) (x : WorldState) → l ≡ m → IfErr r (WantsMemoryWithin (λ c w. CanDo c n m w) x) → IfErr r (WantsMemoryWithin (λ c w. CanDo c n l w) x)
line_wants r n l m x e h = subst (λ (k : LineWords). IfErr r (WantsMemoryWithin (λ c w. CanDo c n k w) x)) (sym e) h

-- a stopped site whose boot number is spent
pub boot_spent : (s : ℕ) (x : WorldState) → 1 ≤ s → s ≤ sites_max → (p : PlaceState) → state_at x.places s ≡ Some p → is_stopped (Some p.place) ≡ true → disk_boot p.place ≡ 4294967295 → (c : Config) (taken : Taken) (w : World) → w.over ≡ None → Shows c taken w x → CanBoot (line.Boot s) w → ⊥
boot_spent s x low high p found stopped spent c taken w over sh can = at p.place refl stopped spent
  where
    there : place_at w s ≡ Some p.place
    there = (sh.sites over).places s low high ∙ ap place_of found

    at : (q : Place) → p.place ≡ q → is_stopped (Some q) ≡ true → disk_boot q ≡ 4294967295 → ⊥
    at (Stopped d) is st e = can d (there ∙ ap Some is) e
    at (Running v) is st e = absurd (let f : false ≡ true = st in cc)

-- a fault of a boot that isn't one of the disk's number
start_memory_unspent : start.NoMemory ≡ start.Spent → ⊥
start_memory_unspent e = cc

-- what is given on is the same fault
pub err_given : {T E : Type 0} (r : Result T E) (x y : E) → IsErrAnd r (λ e. e ≡ x) → r ≡ Err y → x ≡ y
err_given {T} {E} r x y h e = sym (subst (λ (q : Result T E). IsErrAnd q (λ z. z ≡ x)) e h)

pub start_unspent : {T : Type 0} (r : Result T StartFault) → IsErrAnd r (λ e. e ≡ start.NoMemory) → r ≡ Err start.Spent → ⊥
start_unspent (Ok x) given so = absurd given
start_unspent {T = T} (Err e) given so = start_memory_unspent (sym given ∙ same so)
  where
    same : ◌≡◌ {A = Result T StartFault} (Err e) (Err start.Spent) → e ≡ start.Spent
    same q = cc
