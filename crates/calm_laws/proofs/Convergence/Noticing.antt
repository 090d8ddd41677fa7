-- After the ticks of a round each version that a member is to hold, and that is above its copy, is named by a notice under way to it.
use Rattle.std.proofs.Common.{◌≡◌, ◌≢◌, ℕ, ◌==◌, ◌⊎◌, Bool, true, false, cond, not, ◌&&◌, List, [], ◌∷◌, ◌++◌, map, filter, Option, Some, None, refl, sym, ◌∙◌, ap, subst, inl, inr, arith}
use Rattle.std.proofs.lemmas.Bool.Decides.{nat_tests}
use Rattle.std.specs.List.{flat_map}
use Rattle.role_steps.proofs.of_plain_facts.Numbers.{equal_self}
use Rattle.role_steps.proofs.of_plain_facts.Tests.{true_false}
use Rattle.locus_ids.specs.Sites.{has}
use Rattle.locus_ids.specs.declared.config.Config.{Config}
use Rattle.locus_ids.specs.declared.ids.Stamp.{Stamp}
use Rattle.trace_book.specs.Same.{same_epoch}
use Rattle.wire_messages.specs.declared.packet.Packet.{Packet}
use Rattle.role_steps.specs.Adoption.{table_group}
use Rattle.role_steps.specs.Epochs.{all_reports}
use Rattle.role_steps.specs.Notices.{lagging, notice, notices_of, notices_by, file_notices, notices}
use Rattle.role_steps.specs.Pulling.{pull_repeats}
use Rattle.role_steps.specs.Reports.{sync_repeats}
use Rattle.role_steps.specs.Requests.{users_repeats}
use Rattle.role_steps.specs.Storage.{store_repeats}
use Rattle.role_steps.specs.Versions.{row_ino, holders_of, is_among, chosen_site}
use Rattle.role_steps.specs.Views.{Frame, SiteView, Store, boot_in, is_member, members_of, first_site, all_sites}
use Rattle.role_steps.specs.declared.rounds.InEpoch.{InEpoch}
use Rattle.role_steps.specs.declared.synchronizing.FileRow.{FileRow}
use Rattle.role_steps.specs.declared.synchronizing.SyncTable.{SyncTable}
use Rattle.role_steps.specs.declared.synchronizing.VersionRow.{VersionRow}
use Rattle.the_run.specs.Kept.{Among}
use Rattle.the_run.specs.Runs.{ticks_to}
use Rattle.the_run.specs.Steps.{is_framed, in_order, repeats_inside}
use Rattle.the_run.specs.Worlds.{World, place_at}
use Rattle.run_laws.specs.Epochs.Known.{Good}
use Rattle.row_laws.specs.Orderly.Calm.{IsInside}
use Rattle.row_laws.proofs.Orderly.Formed.{among_left, among_right, order_has}
use Rattle.calm_laws.specs.Carrying.{IsMember, frame_of}
use Rattle.calm_laws.proofs.Deliveries.{epoch_same}
use Rattle.calm_laws.proofs.Events.{Under}
use Rattle.calm_laws.proofs.Lists.{row_key}
use Rattle.calm_laws.proofs.Ticks.{AreApart}
use Rattle.calm_laws.specs.Convergence.Offers.{Offer, is_for, names_to, names, named, IsToHold}
use Rattle.calm_laws.proofs.Convergence.Coming.{Ends}
use Rattle.calm_laws.proofs.Convergence.Lists.{among_either}
use Rattle.calm_laws.proofs.Convergence.Named.{named_there}
use Rattle.calm_laws.proofs.Convergence.Repeating.{HasTold, ticks_tell}

-- ---- what is told again ----

pub among_flat : {A B : Type 0} (g : A → List B) (x : A) (y : B) (xs : List A) → Among x xs → Among y (g x) → Among y (flat_map g xs)
among_flat g x y [] a b = absurd a
among_flat {B = B} g x y (z ∷ zs) (inl e) b = among_left y (g z) (flat_map g zs) (subst (λ (t : _). Among {A = B} y (g t)) e b)
among_flat g x y (z ∷ zs) (inr a) b = among_right y (g z) (flat_map g zs) (among_flat g x y zs a b)

-- the notices of all tables of a site
abbrev pub table_notices : Frame → SiteView → List Packet
table_notices f v = flat_map (sync_repeats f) v.tables

-- what a site tells of the closes that aren't answered, and of its tables
abbrev pub told_again : Frame → SiteView → List Packet
told_again f v = store_repeats f v.store ++ table_notices f v

-- all of it is under way
abbrev pub HasNotified : Config → InEpoch → World → ℕ → Type 0
HasNotified = HasTold told_again

told_repeated : (f : Frame) (e : InEpoch) (a : SiteView) (q : Packet) → Among q (told_again f a) → Among q (repeats_inside f e a)
told_repeated f e a q k = among_right q (in_order (all_reports f a)) _ (among_right q (users_repeats f a.users) _ (over (among_either q (store_repeats f a.store) (table_notices f a) k)))
  where
    rest : List Packet
    rest = in_order (pull_repeats f a.pulls) ++ in_order (table_notices f a)

    over : Among q (store_repeats f a.store) ⊎ Among q (table_notices f a) → Among q (in_order (store_repeats f a.store) ++ rest)
    over (inl h) = among_left q (in_order (store_repeats f a.store)) rest (order_has q (store_repeats f a.store) h)
    over (inr h) = among_right q (in_order (store_repeats f a.store)) rest (among_right q (in_order (pull_repeats f a.pulls)) (in_order (table_notices f a)) (order_has q (table_notices f a) h))

told_ended : (f : Frame) (a b : SiteView) → Ends a b → told_again f b ≡ told_again f a
told_ended f a b h = ap (λ (s : Store). store_repeats f s ++ table_notices f b) h.store ∙ ap (λ (ts : List SyncTable). store_repeats f a.store ++ flat_map (sync_repeats f) ts) h.tables

-- where the members are inside before and after all ticks, each has sent its notices
pub ticks_notify : (c : Config) (e : InEpoch) (n : ℕ) (ss : List ℕ) (w : World) → Good w → AreApart ss → ((s : ℕ) → Among s ss → IsMember e s → IsInside w e s) → ((s : ℕ) → Among s ss → IsMember e s → IsInside (ticks_to c n ss w) e s) → (ticks_to c n ss w).over ≡ None → (t : ℕ) →
    IsMember e t → Among t ss ⊎ HasNotified c e w t → HasNotified c e (ticks_to c n ss w) t
ticks_notify = ticks_tell told_again told_repeated told_ended

-- ---- what they name ----

among_map : {A B : Type 0} (g : A → B) (x : A) (xs : List A) → Among x xs → Among (g x) (map g xs)
among_map g x [] a = absurd a
among_map g x (y ∷ ys) (inl e) = inl (ap g e)
among_map g x (y ∷ ys) (inr a) = inr (among_map g x ys a)

among_filter : {A : Type 0} (test : A → Bool) (x : A) (xs : List A) → Among x xs → test x ≡ true → Among x (filter test xs)
among_filter test x [] a t = absurd a
among_filter {A = A} test x (y ∷ ys) a t = over (test y) refl a (λ b. among_filter test x ys b t)
  where
    over : (b : Bool) → test y ≡ b → Among x (y ∷ ys) → (Among x ys → Among x (filter test ys)) → Among {A = A} x (cond b (y ∷ filter test ys) (filter test ys))
    over true k (inl e) f = inl e
    over true k (inr m) f = inr (f m)
    over false k (inl e) f = absurd (true_false (sym t ∙ (ap test e ∙ k)))
    over false k (inr m) f = f m

-- the notice of a kept version to a member that is to hold it stands among the file's, where the table doesn't say that it does
pub notice_there : (f : Frame) (group : ℕ) (r : FileRow) (v : VersionRow) (s : ℕ) → r.kept ≡ v ∷ [] → holders_of r v.stamp ≢ [] → Among s all_sites → is_member f.members s ≡ true → has r.set s ≡ true → is_among s (holders_of r v.stamp) ≡ false →
    (holder : ℕ) × Among (notice f group r v holder s) (file_notices f group r)
notice_there f group r v s only some there member in_set lags = (
  with_holder.0,
  subst (λ (vs : List VersionRow). Among (notice f group r v with_holder.0 s) (notices_by f group r vs)) (sym only) (subst (λ (o : Option ℕ). Among (notice f group r v with_holder.0 s) (notices_of f group r v o)) (sym with_holder.1)
      (among_map (notice f group r v with_holder.0) s (lagging f r (holders_of r v.stamp)) (among_filter (λ t. not (is_among t (holders_of r v.stamp))) s (members_of f.members r.set) (among_filter (λ t. has r.set t && is_member f.members t) s all_sites there (both (has r.set s) (is_member f.members s) in_set member)) (ap not lags)))),
)
  where
    both : (x y : Bool) → x ≡ true → y ≡ true → (x && y) ≡ true
    both x y p q = ap (λ (z : Bool). z && y) p ∙ q

    chosen : (hs : List ℕ) → hs ≢ [] → (a b : Bool) → (h : ℕ) × (cond a (Some f.me) (cond b (Some f.me) (first_site hs)) ≡ Some h)
    chosen hs ne true b = (f.me, refl)
    chosen hs ne false true = (f.me, refl)
    chosen [] ne false false = absurd (ne refl)
    chosen (h ∷ hs) ne false false = (h, refl)

    with_holder : (h : ℕ) × (chosen_site f.me f.me (holders_of r v.stamp) ≡ Some h)
    with_holder = chosen (holders_of r v.stamp) some (is_among f.me (holders_of r v.stamp)) (is_among f.me (holders_of r v.stamp))

abbrev offer_by : ℕ → ℕ → Stamp → List ℕ → Offer
offer_by group ino stamp vector = record { file = record { group = group; ino = ino }; stamp = stamp; vector = vector }

offer_is : (d : Offer) (group ino : ℕ) (stamp : Stamp) (vector : List ℕ) → group ≡ d.file.group → ino ≡ d.file.ino → stamp ≡ d.stamp → vector ≡ d.vector → d ≡ offer_by group ino stamp vector
offer_is d group ino stamp vector g i s v =
    sym (ap (λ (x : ℕ). offer_by x ino stamp vector) g ∙ (ap (λ (x : ℕ). offer_by d.file.group x stamp vector) i ∙ (ap (λ (x : Stamp). offer_by d.file.group d.file.ino x vector) s ∙ ap (λ (x : List ℕ). offer_by d.file.group d.file.ino d.stamp x) v)))

-- a member passes the test
pub member_passes : (e : InEpoch) (s : ℕ) → IsMember e s → is_member e.members s ≡ true
member_passes e s m = by_test (boot_in e.members.boot s == 0) refl
  where
    equal : (n : ℕ) → (n == 0) ≡ true → n ≡ 0
    equal n q = grind (arith, nat_tests)

    by_test : (b : Bool) → (boot_in e.members.boot s == 0) ≡ b → not b ≡ true
    by_test true q = absurd (m (equal (boot_in e.members.boot s) q))
    by_test false q = refl

-- a notice of a member names its version to whom it goes
pub notice_names : (c : Config) (e : InEpoch) (css s : ℕ) (d : Offer) (group : ℕ) (r : FileRow) (v : VersionRow) (holder : ℕ) → group ≡ d.file.group → r.ino ≡ d.file.ino → v.stamp ≡ d.stamp → v.vector ≡ d.vector → Among d (names e s (notice (frame_of c e css) group r v holder s))
notice_names c e css s d group r v holder g i st vec = subst (λ (b : Bool). Among d (names_to b letter.body)) (sym for_it) (inl (offer_is d group r.ino v.stamp v.vector g i st vec))
  where
    letter : Packet
    letter = notice (frame_of c e css) group r v holder s

    for_it : is_for e s letter ≡ true
    for_it = all_three (s == s) (boot_in e.members.boot s == boot_in e.members.boot s) (is_framed letter (Some e)) (equal_self s) (equal_self (boot_in e.members.boot s)) framed
      where
        framed : is_framed letter (Some e) ≡ true
        framed = both (same_epoch e.id e.id) (boot_in e.members.boot css == boot_in e.members.boot css) (epoch_same e.id) (equal_self (boot_in e.members.boot css))
          where
            both : (x y : Bool) → x ≡ true → y ≡ true → (x && y) ≡ true
            both x y p q = ap (λ (z : Bool). z && y) p ∙ q

        all_three : (x y k : Bool) → x ≡ true → y ≡ true → k ≡ true → (x && (y && k)) ≡ true
        all_three true true true p q o = refl
        all_three true true false p q o = absurd (true_false (sym o))
        all_three true false k p q o = absurd (true_false (sym q))
        all_three false y k p q o = absurd (true_false (sym p))

-- what a member is to hold, and doesn't hold by the table, its synchronization site has named to it
pub named_to_hold : (c : Config) (e : InEpoch) (w : World) (s : ℕ) (d : Offer) → (h : IsToHold c e (place_at w) s d) → IsMember e s → Among s all_sites → HasNotified c e w h.known.css → h.known.table.started ≡ true → holders_of h.file_known h.version.stamp ≢ [] →
    is_among s (holders_of h.file_known h.version.stamp) ≡ false → Among d (named e s w.underway)
named_to_hold c e w s d h m there notified started some lags = named_there e s d z.letter w.underway z.there (subst (λ (q : Packet). Among d (names e s q)) (sym z.is) (notice_names c e css s d t.group r h.version n.0 at_table.1 at_row.1 h.stamp h.vector))
  where
    css : ℕ
    css = h.known.css

    f : Frame
    f = frame_of c e css

    t : SyncTable
    t = h.known.table

    r : FileRow
    r = h.file_known

    at_table : Among t h.known.view.tables × (t.group ≡ d.file.group)
    at_table = row_key table_group d.file.group h.known.view.tables t h.known.found

    at_row : Among r t.files × (r.ino ≡ d.file.ino)
    at_row = row_key row_ino d.file.ino t.files r h.known.is_row

    n : (holder : ℕ) × Among (notice f t.group r h.version holder s) (file_notices f t.group r)
    n = notice_there f t.group r h.version s h.only some there (member_passes e s m) h.in_set lags

    letter : Packet
    letter = notice f t.group r h.version n.0 s

    sent : Among letter (table_notices f h.known.view)
    sent = among_flat (sync_repeats f) t letter h.known.view.tables at_table.0 (subst (λ (b : Bool). Among letter (cond b (notices f t) [])) (sym started) (among_flat (file_notices f t.group) r letter t.files at_row.0 n.1))

    z : Under w.underway letter
    z = notified h.known.view h.known.here letter (among_right letter (store_repeats f h.known.view.store) (table_notices f h.known.view) sent)
