-- Packets of the world that is shown.
use Rattle.std.proofs.Common.{◌≡◌, ℕ, ◌≤◌, List, [], ◌∷◌, map, Option, Some, None, Bool, true, false, not, ◌||◌, refl, sym, ap, subst, ◌∙◌}
use Rattle.std.specs.Option.{is_some, IfSome}
use Rattle.std.specs.List.{AllByRecursion}
use Rattle.locus_ids.specs.Sizes.{sites_max}
use Rattle.locus_ids.specs.declared.config.Config.{Config}
use Rattle.wire_messages.specs.declared.packet.Packet.{Packet}
use Rattle.wire_fields.proofs.Members.{range}
use Rattle.role_steps.specs.Tables.{first_that}
use Rattle.role_steps.specs.Views.{Receives}
use Rattle.site_frame.specs.Printed.{printed}
use Rattle.the_run.specs.Worlds.{World, Limit, Place, Running, Stopped, Numbered, number_of, place_at, is_up, happens, voids, passed, loses}
use Rattle.the_run.specs.Runs.{packet_at, can_come, is_lost, next_packet, next_packet_of, arrives_at, arrives, delivers_line, loses_line, packet_record}
use Rattle.circuits.specs.Circuits.{TellsUp}
use Rattle.packet_mail.specs.Posts.{Post, post_of_world, passes, loses as loses_in, sent_at, is_sent, is_lost as is_lost_in, can_come as can_come_by, number_in, packet_in, sender_in, receiver_in, next_number as next_in, pending_of, IsKnown}
use Rattle.site_place.specs.Places.{PlaceState, drops}
use Rattle.run_book.specs.Ledgers.{Ledger, Keeps}
use Rattle.world.specs.States.{WorldState, state_at, place_of, boots_of}
use Rattle.world.specs.Shown.{Taken, ShowsSites, Shows, Follows, FollowsWithin, Answers}
use Rattle.world.specs.Listed.{comes_if, may_come, stays_if, may_be_lost, next_number, listed, is_taken}
use Rattle.world.proofs.Tables.{key_found, same_rest}
use Rattle.world.proofs.Events.{own_along}
use Rattle.world.proofs.Asking.{up_is, unless_yes, unless_no}
use Rattle.complete_laws.specs.Lines.{CanHappen}
use Rattle.world.specs.Faults.{WantsMemory, WantsMemoryWithin}
use Rattle.world.specs.declared.fault.WorldFault.{WorldFault}
use Rattle.world.specs.declared.fault.WorldFault.TheVariants.{NoMemory}
use Rattle.complete_laws.specs.MomentEvents.{WherePacket}

-- ---- packets by number ----

module _ (c : Config) (taken : Taken) (w : World) (x : WorldState) (o : w.over ≡ None) (sh : Shows c taken w x) where
  post_is : x.book.post ≡ post_of_world w
  post_is = (sh.book.whole o).post

  pub packet_same : (k : ℕ) → packet_at w k ≡ sent_at k x.book.post
  packet_same k = ap (sent_at k) (sym post_is)

  pub lost_same : (k : ℕ) → is_lost w k ≡ is_lost_in k x.book.post
  lost_same k = ap (is_lost_in k) (sym post_is)

-- no packet of the number was sent
pub not_sent : (x : WorldState) (k : ℕ) → sent_at k x.book.post ≡ None → Answers (may_come k) x false
not_sent x k e c taken w o sh = ap (comes_if w) (packet_same c taken w x o sh k ∙ e)

no_sender : (o : Option Numbered) → None ≡ sender_in o → o ≡ None
no_sender None e = refl
no_sender (Some x) e = absurd (cc)

no_receiver : (o : Option Numbered) → None ≡ receiver_in o → o ≡ None
no_receiver None e = refl
no_receiver (Some x) e = absurd (cc)

pub without_sender : (x : WorldState) (k : ℕ) → None ≡ sender_in (sent_at k x.book.post) → Answers (may_come k) x false
without_sender x k e = not_sent x k (no_sender (sent_at k x.book.post) e)

pub without_receiver : (x : WorldState) (k : ℕ) → None ≡ receiver_in (sent_at k x.book.post) → Answers (may_come k) x false
without_receiver x k e = not_sent x k (no_receiver (sent_at k x.book.post) e)

comes_as : (w : World) (x : Numbered) (lost up : Bool) → is_lost w x.number ≡ lost → is_up w x.packet.from x.packet.to ≡ up → comes_if w (Some x) ≡ not (lost || not up)
comes_as w x lost up e f = rw (e, f) refl

-- a packet that was sent, by whether it is lost
module _ (x : WorldState) (k from to : ℕ) (lost : Bool) (ef : Some from ≡ sender_in (sent_at k x.book.post)) (et : Some to ≡ receiver_in (sent_at k x.book.post)) (el : lost ≡ is_lost_in k x.book.post) where
  come_as : (c : Config) (taken : Taken) (w : World) → w.over ≡ None → Shows c taken w x → (up : Bool) → is_up w from to ≡ up → may_come k w ≡ not (lost || not up)
  come_as c taken w o sh up eu = at (packet_at w k) refl where
    at : (q : Option Numbered) → packet_at w k ≡ q → comes_if w q ≡ not (lost || not up)
    at None e = absurd (let f : sent_at k x.book.post ≡ None = sym (packet_same c taken w x o sh k) ∙ e in let g : Some from ≡ sender_in None = ef ∙ ap sender_in f in cc)
    at (Some y) e =
        let f : sent_at k x.book.post ≡ Some y = sym (packet_same c taken w x o sh k) ∙ e in
        let a : Some from ≡ Some y.packet.from = ef ∙ ap sender_in f in
        let b : Some to ≡ Some y.packet.to = et ∙ ap receiver_in f in
        let a' : from ≡ y.packet.from = cc in
        let b' : to ≡ y.packet.to = cc in
        let n : y.number ≡ k = key_found number_of k w.sent y e in
        comes_as w y lost up (ap (is_lost w) n ∙ (lost_same c taken w x o sh k ∙ sym el)) (ap (λ i. is_up w i y.packet.to) (sym a') ∙ (ap (is_up w from) (sym b') ∙ eu))

  pub come_lost : lost ≡ true → Answers (may_come k) x false
  come_lost t c taken w o sh = come_as c taken w o sh (is_up w from to) refl ∙ ap (λ b. not (b || not (is_up w from to))) t

  pub come_up : (up : Bool) → lost ≡ false → Answers (λ w. is_up w from to) x up → Answers (may_come k) x up
  come_up up t h c taken w o sh = come_as c taken w o sh up (h c taken w o sh) ∙ (ap (λ b. not (b || not up)) t ∙ twice up) where
    twice : (b : Bool) → not (false || not b) ≡ b
    twice true = refl
    twice false = refl

-- ---- may be lost ----

stays_as : (w : World) (q : Option Numbered) (k : ℕ) (lost : Bool) → ((y : Numbered) → q ≡ Some y → is_lost w y.number ≡ lost) → is_some q ≡ true → stays_if w q ≡ not lost
stays_as w None k lost h e = absurd (cc)
stays_as w (Some y) k lost h e = ap not (h y refl)

pub lost_sent : (x : WorldState) (k : ℕ) (lost : Bool) → is_sent k x.book.post ≡ true → lost ≡ is_lost_in k x.book.post → Answers (may_be_lost k) x (not lost)
lost_sent x k lost s e c taken w o sh =
    stays_as w (packet_at w k) k lost
    (λ y f. ap (is_lost w) (key_found number_of k w.sent y f) ∙ (lost_same c taken w x o sh k ∙ sym e))
    (ap is_some (packet_same c taken w x o sh k) ∙ s)

no_packet : (q : Option Numbered) → is_some q ≡ false → q ≡ None
no_packet None e = refl
no_packet (Some y) e = absurd (cc)

pub lost_unsent : (x : WorldState) (k : ℕ) → is_sent k x.book.post ≡ false → Answers (may_be_lost k) x false
lost_unsent x k s c taken w o sh = ap (stays_if w) (packet_same c taken w x o sh k ∙ no_packet (sent_at k x.book.post) s)

-- ---- the next packet ----

first_alike : {A : Type 0} (f g : A → Bool) (xs : List A) → AllByRecursion (λ a. f a ≡ g a) xs → first_that f xs ≡ first_that g xs
first_alike f g [] h = refl
first_alike {A = A} f g (a ∷ xs) h = ap (λ b. elim b as (λ _. Option A) [ true ↦ Some a | false ↦ first_that f xs ]) h.0 ∙ same_rest a (first_that f xs) (first_that g xs) (g a) (first_alike f g xs h.1)

has_one : {A : Type 0} (P : A → Type 0) (a : A) (o : Option A) (b : Bool) → P a → IfSome o P → IfSome {T = A} (elim b [ true ↦ Some a | false ↦ o ]) P
has_one P a o true p q = p
has_one P a o false p q = q

first_has : {A : Type 0} (P : A → Type 0) (f : A → Bool) (xs : List A) → AllByRecursion P xs → IfSome (first_that f xs) P
first_has P f [] h = tt
first_has P f (a ∷ xs) h = has_one P a (first_that f xs) (f a) h.0 (first_has P f xs h.1)

all_map : {A : Type 0} (P Q : A → Type 0) (xs : List A) → ((a : A) → P a → Q a) → AllByRecursion P xs → AllByRecursion Q xs
all_map P Q [] f h = tt
all_map P Q (a ∷ xs) f h = (f a h.0, all_map P Q xs f h.1)

come_alike : (w : World) (x : WorldState) (up : List Bool) → ShowsSites w x → TellsUp up x.circuits (boots_of x.places) → (m : Post) (y : Numbered) → IsKnown m y → can_come w y ≡ can_come_by up y
come_alike w x up k t m y is =
    let a = range 1 sites_max y.packet.from is.fits.from.0 in
    let b = range 1 sites_max y.packet.to is.fits.to.0 in
    up_is w x k y.packet.from y.packet.to a.0 a.1 b.0 b.1 ∙ sym (t.each y.packet.from y.packet.to a.0 a.1 b.0 b.1)

pub next_within : (x : WorldState) (up : List Bool) (r : Option ℕ) (c : Config) (taken : Taken) (w : World) → w.over ≡ None → Shows c taken w x → TellsUp up x.circuits (boots_of x.places) → AllByRecursion (IsKnown x.book.post) x.book.post.underway → r ≡ next_in up x.book.post → next_number w ≡ r
next_within x up r c taken w o sh t known er =
    let post : x.book.post ≡ post_of_world w = (sh.book.whole o).post in
    let known' : AllByRecursion (IsKnown x.book.post) w.underway = subst (λ (m : Post). AllByRecursion (IsKnown x.book.post) m.underway) post known in
    ap (λ l. number_in (next_packet_of w l)) o
    ∙ (ap number_in (first_alike (can_come w) (can_come_by up) w.underway (all_map (IsKnown x.book.post) (λ y. can_come w y ≡ can_come_by up y) w.underway (come_alike w x up (sh.sites o) t x.book.post) known'))
    ∙ (ap (next_in up) (sym post) ∙ sym er))

pub next_known : (x : WorldState) (c : Config) (taken : Taken) (w : World) → w.over ≡ None → Shows c taken w x → AllByRecursion (IsKnown x.book.post) x.book.post.underway → IfSome (next_packet w) (λ y. packet_at w y.number ≡ Some y)
next_known x c taken w o sh known =
    let post : x.book.post ≡ post_of_world w = (sh.book.whole o).post in
    let known' : AllByRecursion (IsKnown (post_of_world w)) w.underway = subst (λ (m : Post). AllByRecursion (IsKnown m) m.underway) post known in
    subst (λ (l : Option Limit). IfSome (next_packet_of w l) (λ y. packet_at w y.number ≡ Some y)) (sym o)
    (first_has (λ (y : Numbered). packet_at w y.number ≡ Some y) (can_come w) w.underway (all_map (IsKnown (post_of_world w)) (λ y. packet_at w y.number ≡ Some y) w.underway (λ y is. is.sent) known'))

-- ---- a packet arrives ----

hand_dropped : (c : Config) (n : ℕ) (p : Packet) (w : World) (q : Place) → drops p q ≡ true → arrives_at c n p (Some q) w ≡ w
hand_dropped c n p w (Stopped d) e = refl
hand_dropped c n p w (Running v) e = ap (λ b. elim b [ true ↦ w | false ↦ happens c n p.to (Receives p) w ]) e

hand_taken : (c : Config) (n : ℕ) (p : Packet) (w : World) (q : Place) → drops p q ≡ false → arrives_at c n p (Some q) w ≡ happens c n p.to (Receives p) w
hand_taken c n p w (Stopped d) e = absurd (cc)
hand_taken c n p w (Running v) e = ap (λ b. elim b [ true ↦ w | false ↦ happens c n p.to (Receives p) w ]) e

sites_along : (w : World) (x y : WorldState) → ShowsSites w x → y.config ≡ x.config → y.places ≡ x.places → y.circuits ≡ x.circuits → ShowsSites w y
sites_along w x y k ec ep ek = record {
  places = λ s l m. k.places s l m ∙ ap (λ (xs : List PlaceState). place_of (state_at xs s)) (sym ep);
  scripts = λ s p e. k.scripts s p (ap (λ (xs : List PlaceState). state_at xs s) (sym ep) ∙ e);
  own = λ s p e. own_along x.config y.config s p ec (k.own s p (ap (λ (xs : List PlaceState). state_at xs s) (sym ep) ∙ e));
  table = k.table;
  circuits = k.circuits ∙ sym ek;
}

-- the packet isn't under way any more
pub pass_shown : (c : Config) (taken : Taken) (w : World) (x y : WorldState) (k : ℕ) → w.over ≡ None → Shows c taken w x → y.config ≡ x.config → y.places ≡ x.places → y.circuits ≡ x.circuits → y.book ≡ record x.book { post = passes k x.book.post } → Shows c taken (passed k w) y
pass_shown c taken w x y k o sh ec ep ek eb =
    let book : Keeps taken.bytes (passed k w) (record x.book { post = passes k x.book.post }) = record {
      written = sh.book.written;
      counts = sh.book.counts;
      over = sh.book.over;
      whole = λ e. record { post = ap (passes k) (sh.book.whole o).post; text = (sh.book.whole o).text };
    } in
    let sites = sites_along w x y (sh.sites o) ec ep ek in
    record {
      config = ec ∙ sh.config;
      writing = ap (λ (b : Ledger). b.writing) eb ∙ sh.writing;
      book = subst (λ (b : Ledger). Keeps taken.bytes (passed k w) b) (sym eb) book;
      sites = λ e. record { places = sites.places; scripts = sites.scripts; own = sites.own; table = sites.table; circuits = sites.circuits };
    }

pub lose_shown : (c : Config) (taken : Taken) (w : World) (x y : WorldState) (k : ℕ) → w.over ≡ None → Shows c taken w x → y.config ≡ x.config → y.places ≡ x.places → y.circuits ≡ x.circuits → y.book ≡ record x.book { post = loses_in k x.book.post } → Shows c taken (loses k w) y
lose_shown c taken w x y k o sh ec ep ek eb =
    let book : Keeps taken.bytes (loses k w) (record x.book { post = loses_in k x.book.post }) = record {
      written = sh.book.written;
      counts = sh.book.counts;
      over = sh.book.over;
      whole = λ e. record { post = ap (loses_in k) (sh.book.whole o).post; text = (sh.book.whole o).text };
    } in
    let sites = sites_along w x y (sh.sites o) ec ep ek in
    record {
      config = ec ∙ sh.config;
      writing = ap (λ (b : Ledger). b.writing) eb ∙ sh.writing;
      book = subst (λ (b : Ledger). Keeps taken.bytes (loses k w) b) (sym eb) book;
      sites = λ e. record { places = sites.places; scripts = sites.scripts; own = sites.own; table = sites.table; circuits = sites.circuits };
    }

-- a packet that was sent arrives, as the world takes it that has it no more under way
pub arrive_shown : (n k : ℕ) (p : Packet) (x y z : WorldState) → Some p ≡ packet_in (sent_at k x.book.post) → y.config ≡ x.config → y.places ≡ x.places → y.circuits ≡ x.circuits → y.book ≡ record x.book { post = passes k x.book.post } → FollowsWithin (λ c w. arrives_at c n p (place_at w p.to) w) y z → (u : Numbered) (c : Config) (taken : Taken) (w : World) → w.over ≡ None → packet_at w k ≡ Some u → Shows c taken w x → Shows c taken (arrives c n u w) z
arrive_shown n k p x y z is ec ep ek eb h u c taken w o e sh =
    let number : u.number ≡ k = key_found number_of k w.sent u e in
    let there : sent_at k x.book.post ≡ Some u = sym (packet_same c taken w x o sh k) ∙ e in
    let same : Some p ≡ Some u.packet = is ∙ ap packet_in there in
    let packet : p ≡ u.packet = cc in
    let got = h c taken (passed k w) o (pass_shown c taken w x y k o sh ec ep ek eb) in
    let step : Shows c taken (arrives_at c n u.packet (place_at w u.packet.to) (passed k w)) z = subst (λ (q : Packet). Shows c taken (arrives_at c n q (place_at w q.to) (passed k w)) z) packet got in
    subst (λ (j : ℕ). Shows c taken (arrives_at c n u.packet (place_at w u.packet.to) (passed j w)) z) (sym number) step

-- one that wasn't sent doesn't arrive
pub arrive_unsent : (n k : ℕ) (x : WorldState) → is_sent k x.book.post ≡ false → (u : Numbered) (c : Config) (taken : Taken) (w : World) → w.over ≡ None → packet_at w k ≡ Some u → Shows c taken w x → Shows c taken (arrives c n u w) x
arrive_unsent n k x unsent u c taken w o e sh =
    let there : sent_at k x.book.post ≡ Some u = sym (packet_same c taken w x o sh k) ∙ e in
    let yes : is_sent k x.book.post ≡ true = ap is_some there in
    absurd (cc)

-- the fault of a packet that arrives
pub arrive_wants : (k : ℕ) (p : Packet) (x y : WorldState) (fault : WorldFault) → Some p ≡ packet_in (sent_at k x.book.post) → y.config ≡ x.config → y.places ≡ x.places → y.circuits ≡ x.circuits → y.book ≡ record x.book { post = passes k x.book.post } → WantsMemory (λ c w. CanHappen c p.to (Receives p) w) y fault
    → (u : Numbered) → WantsMemoryWithin (λ c w. (packet_at w k ≡ Some u) × CanHappen c u.packet.to (Receives u.packet) w) x fault
arrive_wants k p x y fault is ec ep ek eb h u c taken w o sh need =
    let there : sent_at k x.book.post ≡ Some u = sym (packet_same c taken w x o sh k) ∙ need.0 in
    let same : Some p ≡ Some u.packet = is ∙ ap packet_in there in
    let packet : p ≡ u.packet = cc in
    h c taken (passed k w) (pass_shown c taken w x y k o sh ec ep ek eb) (subst (λ (q : Packet). CanHappen c q.to (Receives q) w) (sym packet) need.1)

-- ---- lines ----

pub deliver_yes : (n k : ℕ) (x y : WorldState) (b : Bool) → Answers (may_come k) x b → b ≡ true → ((u : Numbered) (c : Config) (taken : Taken) (w : World) → w.over ≡ None → packet_at w k ≡ Some u → Shows c taken w x → Shows c taken (arrives c n u w) y) → FollowsWithin (λ c w. delivers_line c n (packet_at w k) w) x y
deliver_yes n k x y b h t g c taken w o sh = at (packet_at w k) refl (h c taken w o sh ∙ t) where
  at : (q : Option Numbered) → packet_at w k ≡ q → comes_if w q ≡ true → Shows c taken (delivers_line c n q w) y
  at None e f = absurd (cc)
  at (Some u) e f = unless_no n (arrives c n u) (is_lost w u.number || not (can_come w u)) w (λ v. Shows c taken v y) (untrue (is_lost w u.number || not (can_come w u)) f) (g u c taken w o e sh) where
    untrue : (d : Bool) → not d ≡ true → d ≡ false
    untrue true r = absurd (cc)
    untrue false r = refl

pub deliver_wants_one : (k : ℕ) (x : WorldState) (fault : WorldFault) (b : Bool) → Answers (may_come k) x b → b ≡ true → ((u : Numbered) → WantsMemoryWithin (λ c w. (packet_at w k ≡ Some u) × CanHappen c u.packet.to (Receives u.packet) w) x fault) → WantsMemoryWithin (λ c w. WherePacket (CanHappen c) (packet_at w k) w) x fault
deliver_wants_one k x fault b h t wants c taken w o sh need = at (packet_at w k) refl (h c taken w o sh ∙ t) need where
  at : (q : Option Numbered) → packet_at w k ≡ q → comes_if w q ≡ true → WherePacket (CanHappen c) q w → fault ≡ NoMemory
  at None e f n = absurd (cc)
  at (Some u) e f n = wants u c taken w o sh (e, n)

pub deliver_no : (n k : ℕ) (x y : WorldState) (b : Bool) → Answers (may_come k) x b → b ≡ false → Follows (λ c w. voids n w) x y → FollowsWithin (λ c w. delivers_line c n (packet_at w k) w) x y
deliver_no n k x y b h t g c taken w o sh = at (packet_at w k) (h c taken w o sh ∙ t) where
  at : (q : Option Numbered) → comes_if w q ≡ false → Shows c taken (delivers_line c n q w) y
  at None f = g c taken w sh
  at (Some u) f = unless_yes n (arrives c n u) (is_lost w u.number || not (can_come w u)) w (λ v. Shows c taken v y) (untrue (is_lost w u.number || not (can_come w u)) f) (g c taken w sh) where
    untrue : (d : Bool) → not d ≡ false → d ≡ true
    untrue true r = refl
    untrue false r = absurd (cc)

pub lose_yes : (n k : ℕ) (x y : WorldState) (b : Bool) → Answers (may_be_lost k) x b → b ≡ true → y.config ≡ x.config → y.places ≡ x.places → y.circuits ≡ x.circuits → y.book ≡ record x.book { post = loses_in k x.book.post } → FollowsWithin (λ c w. loses_line n (packet_at w k) w) x y
lose_yes n k x y b h t ec ep ek eb c taken w o sh = at (packet_at w k) refl (h c taken w o sh ∙ t) where
  at : (q : Option Numbered) → packet_at w k ≡ q → stays_if w q ≡ true → Shows c taken (loses_line n q w) y
  at None e f = absurd (cc)
  at (Some u) e f =
      let number : u.number ≡ k = key_found number_of k w.sent u e in
      unless_no n (loses u.number) (is_lost w u.number) w (λ v. Shows c taken v y) (untrue (is_lost w u.number) f) (subst (λ (j : ℕ). Shows c taken (loses j w) y) (sym number) (lose_shown c taken w x y k o sh ec ep ek eb)) where
        untrue : (d : Bool) → not d ≡ true → d ≡ false
        untrue true r = absurd (cc)
        untrue false r = refl

pub lose_no : (n k : ℕ) (x y : WorldState) (b : Bool) → Answers (may_be_lost k) x b → b ≡ false → Follows (λ c w. voids n w) x y → FollowsWithin (λ c w. loses_line n (packet_at w k) w) x y
lose_no n k x y b h t g c taken w o sh = at (packet_at w k) (h c taken w o sh ∙ t) where
  at : (q : Option Numbered) → stays_if w q ≡ false → Shows c taken (loses_line n q w) y
  at None f = g c taken w sh
  at (Some u) f = unless_yes n (loses u.number) (is_lost w u.number) w (λ v. Shows c taken v y) (untrue (is_lost w u.number) f) (g c taken w sh) where
    untrue : (d : Bool) → not d ≡ false → d ≡ true
    untrue true r = refl
    untrue false r = absurd (cc)

-- the records of packets under way
pub listed_all : (us : List Numbered) → printed (map packet_record us) ≡ map listed (map pending_of us)
listed_all [] = refl
listed_all (u ∷ us) = ap (λ rs. listed (pending_of u) ∷ rs) (listed_all us)

-- ---- a packet comes to its site ----

module _ (c : Config) (n : ℕ) (p : Packet) (w : World) where
  goes : (q : Option PlaceState) → is_taken p q ≡ true → arrives_at c n p (place_of q) w ≡ happens c n p.to (Receives p) w
  goes None e = absurd (cc)
  goes (Some q) e = hand_taken c n p w q.place (untrue (drops p q.place) e) where
    untrue : (b : Bool) → not b ≡ true → b ≡ false
    untrue true r = absurd (cc)
    untrue false r = refl

  stays : (q : Option PlaceState) → is_taken p q ≡ false → arrives_at c n p (place_of q) w ≡ w
  stays None e = refl
  stays (Some q) e = hand_dropped c n p w q.place (untrue (drops p q.place) e) where
    untrue : (b : Bool) → not b ≡ false → b ≡ true
    untrue true r = refl
    untrue false r = absurd (cc)

module _ (n : ℕ) (p : Packet) (x : WorldState) (low : 1 ≤ p.to) (high : p.to ≤ sites_max) (b : Bool) (asked : b ≡ is_taken p (state_at x.places p.to)) where
  site_is : (c : Config) (taken : Taken) (w : World) → w.over ≡ None → Shows c taken w x → place_at w p.to ≡ place_of (state_at x.places p.to)
  site_is c taken w o sh = (sh.sites o).places p.to low high

  pub hand_goes : (y : WorldState) → b ≡ true → Follows (λ c w. happens c n p.to (Receives p) w) x y → FollowsWithin (λ c w. arrives_at c n p (place_at w p.to) w) x y
  hand_goes y t g c taken w o sh = subst (λ (u : World). Shows c taken u y) (sym (ap (λ q. arrives_at c n p q w) (site_is c taken w o sh) ∙ goes c n p w (state_at x.places p.to) (sym asked ∙ t))) (g c taken w sh)

  pub hand_stays : b ≡ false → FollowsWithin (λ c w. arrives_at c n p (place_at w p.to) w) x x
  hand_stays t c taken w o sh = subst (λ (u : World). Shows c taken u x) (sym (ap (λ q. arrives_at c n p q w) (site_is c taken w o sh) ∙ stays c n p w (state_at x.places p.to) (sym asked ∙ t))) sh
