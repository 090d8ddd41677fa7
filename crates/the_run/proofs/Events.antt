-- An event as the world takes it: within the limits it changes the world and adds packets and records, else nothing.
use Rattle.std.proofs.Common.{◌≡◌, ◌≢◌, ℕ, ◌+◌, ◌-◌, nat_lt, Bool, true, false, List, [], ◌∷◌, ◌++◌, length, Option, Some, None, refl, sym, ◌∙◌, ap, append_assoc}
use Rattle.role_steps.proofs.of_plain_facts.Numbers.{apart_test}
use Rattle.role_steps.specs.of_wire_messages.declared.packet.Packet.{Packet}
use Rattle.role_steps.specs.Tables.{total}
use Rattle.role_steps.specs.Views.{SiteView, Told, DiskWrite, Outcome}
use Rattle.role_steps.proofs.Rows.{row_other, row_same}
use Rattle.the_run.specs.Disks.{Disk, Armed, write_calls, cut_disk}
use Rattle.the_run.specs.Worlds.{World, Limit, Place, Running, Numbered, Line, place_at, place_in, place_site, script_of, happened, happened_of, unless_over, limit_passed, with_numbered, numbered_from, newest_onto, told_onto, told_size, packet_size, puts, arms, stops_with, cut_told, cut_event, runs_on, spends, writes_of, acts_of, acts}

-- ---- the parts of an event ----

-- a property that is kept where nothing happens, where a limit is noted, and where the change and what is added are made
pub happened_keeps : (P : World → Type 0) (n : ℕ) (ps : List Packet) (told : List Told) (change : World → World) (w : World) →
    P w → ((l : Limit) → P (record w { over = Some l })) → ((k b t : ℕ) → P (with_numbered (numbered_from (w.packets + 1) ps) (told_onto n told w.trace) (w.packets + length ps) b t (change w))) →
    P (happened n ps told change w)
happened_keeps P n ps told change w p over makes = by_over w.over
  where
    by_limit : (l : Option Limit) (b t : ℕ) → P (unless_over l n ps told change (w.packets + length ps) b t w)
    by_limit (Some l) b t = over l
    by_limit None b t = makes 0 b t

    by_over : (o : Option Limit) → P (happened_of o n ps told change w)
    by_over (Some l) = p
    by_over None = by_limit (limit_passed (w.packets + length ps) (w.bytes + total packet_size ps) (w.text + total (told_size n) told)) (w.bytes + total packet_size ps) (w.text + total (told_size n) told)

-- every way in which an outcome of a site becomes part of the world is one event
pub acts_keeps : (P : World → Type 0) (n s : ℕ) (v : SiteView) (o : Outcome SiteView) (w : World) →
    ((ps : List Packet) (told : List Told) (place : Place) → P (happened n ps told (λ now. puts s place now) w)) →
    ((ps : List Packet) (told : List Told) (place : Place) (a : Armed) → P (happened n ps told (λ now. puts s place (arms a now)) w)) →
    ((ps : List Packet) (told : List Told) (d : Disk) → P (happened n ps told (stops_with s d) w)) →
    P (acts n s v o w)
acts_keeps P n s v o w plain armed cut = by_written o.written
  where
    by_left : (d : DiskWrite) (a : Armed) (b : Bool) → P (elim b [ true ↦ cut_event n s v d a w | false ↦ runs_on n s o (spends a (a.left - write_calls v.store d)) w ])
    by_left d a true = cut [] (cut_told s v.store d a.how a.left) (cut_disk v.boot v.store d a.how a.left)
    by_left d a false = armed o.sent o.told (Running o.view) (record a { left = a.left - write_calls v.store d })

    by_script : (d : DiskWrite) (a : Option Armed) → P (writes_of n s v o d a w)
    by_script d None = plain o.sent o.told (Running o.view)
    by_script d (Some a) = by_left d a (nat_lt a.left (write_calls v.store d))

    by_written : (d : Option DiskWrite) → P (acts_of n s v o d w)
    by_written None = plain o.sent o.told (Running o.view)
    by_written (Some d) = by_script d (script_of w s)

-- ---- places ----

pub puts_other : (s t : ℕ) (p : Place) (w : World) → s ≢ t → place_at (puts s p w) t ≡ place_at w t
puts_other s t p w ne = ap place_in (row_other place_site (record { site = s; place = p }) t w.places (apart_test s t ne))

pub puts_same : (s : ℕ) (p : Place) (w : World) → place_at (puts s p w) s ≡ Some p
puts_same s p w = ap place_in (row_same place_site (record { site = s; place = p }) w.places)

-- ---- lists that grow at the front ----

pub onto_front : (n : ℕ) (told : List Told) (trace : List Line) → (lines : List Line) × (told_onto n told trace ≡ lines ++ trace)
onto_front n [] trace = ([], refl)
onto_front n (x ∷ xs) trace =
    let r : (lines : List Line) × (told_onto n xs (record { number = n; told = x } ∷ trace) ≡ lines ++ record { number = n; told = x } ∷ trace) = onto_front n xs (record { number = n; told = x } ∷ trace) in
    (r.0 ++ record { number = n; told = x } ∷ [], r.1 ∙ sym (append_assoc r.0 (record { number = n; told = x } ∷ []) trace))

pub newest_front : (xs : List Numbered) (sent : List Numbered) → (more : List Numbered) × (newest_onto xs sent ≡ more ++ sent)
newest_front [] sent = ([], refl)
newest_front (x ∷ xs) sent =
    let r : (more : List Numbered) × (newest_onto xs (x ∷ sent) ≡ more ++ x ∷ sent) = newest_front xs (x ∷ sent) in
    (r.0 ++ x ∷ [], r.1 ∙ sym (append_assoc r.0 (x ∷ []) sent))
