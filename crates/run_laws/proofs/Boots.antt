-- Each boot prints a record, and the text has room for so many: so no boot number is great.
use Rattle.std.proofs.Common.{◌≡◌, ◌≤◌, ℕ, zero, suc, ◌+◌, Bool, true, false, cond, List, [], ◌∷◌, ◌++◌, length, map, Option, Some, None, refl, ap, subst, arith, codes}
use Rattle.std.proofs.lemmas.Bool.Decides.{nat_tests}
use Rattle.locus_ids.specs.declared.config.Config.{Config}
use Rattle.locus_ids.specs.declared.ids.FileId.{FileId}
use Rattle.schedule_lines.specs.declared.line.ScheduleLine.{ScheduleLine}
use Rattle.trace_book.specs.declared.record.Record.{Record}
use Rattle.trace_book.specs.Text.{entry_text, record_text, number, gap}
use Rattle.wire_messages.specs.declared.packet.Packet.{Packet}
use Rattle.the_run.specs.of_role_steps.Own.{Sends}
use Rattle.the_run.specs.of_role_steps.Tables.{total}
use Rattle.the_run.specs.of_role_steps.Views.{SiteView, Told, Shown, Outcome, Receives}
use Rattle.the_run.specs.Disks.{Disk, Armed, Cut, BootWrite, ClosesLosing, WritesBody, OpensHalf, ClosesOther, ClosesGate, boot_writes, written, is_left_written, Booted, Whole, CutOff, boots, boots_armed, boots_freely, cut_disk}
use Rattle.the_run.specs.Laws.{boot_on, boot_number}
use Rattle.the_run.specs.Steps.{step}
use Rattle.the_run.specs.Worlds.{World, Place, Running, Stopped, Limit, links_of, place_at, script_of, happened, happened_of, unless_over, limit_passed, told_size, packet_size, disk_of, puts, arms, passed, stops_with, cut_told, acts, first_world}
use Rattle.the_run.specs.Runs.{boots_as, run_in}
use Rattle.the_run.specs.Kept.{Kept}
use Rattle.the_run.proofs.Boots.{at_each, acts_cases}
use Rattle.the_run.proofs.Events.{puts_other, puts_same}
use Rattle.the_run.proofs.Runs.{every_run}
use Rattle.the_run.proofs.StepSends.{step_sends}
use Rattle.run_laws.proofs.Walks.FirstWorld.{first_places}
use Rattle.run_laws.specs.Boots.{BootsAreLow, booted_number, NextBootsAreLow}

-- ---- a boot raises the number by one at most ----

abbrev opened_halves : List BootWrite → ℕ
opened_halves [] = 0
opened_halves (OpensHalf ∷ xs) = suc (opened_halves xs)
opened_halves (x ∷ xs) = opened_halves xs

opens_none : (files : List FileId) → opened_halves (map ClosesGate files) ≡ 0
opens_none [] = refl
opens_none (f ∷ fs) = opens_none fs

opens_one : (b : Bool) (files : List FileId) → opened_halves (cond b (ClosesLosing ∷ []) [] ++ (WritesBody ∷ OpensHalf ∷ ClosesOther ∷ map ClosesGate files)) ≡ 1
opens_one true files = ap suc (opens_none files)
opens_one false files = ap suc (opens_none files)

written_most : (x : BootWrite) (xs : List BootWrite) (d : Disk) → (written x d).label.boot + opened_halves xs ≤ d.label.boot + opened_halves (x ∷ xs)
written_most ClosesLosing xs d = omega arith
written_most WritesBody xs d = omega arith
written_most OpensHalf xs d = omega arith
written_most ClosesOther xs d = omega arith
written_most (ClosesGate file) xs d = omega arith

freely_most : (xs : List BootWrite) (d : Disk) → (boots_freely xs d).label.boot ≤ d.label.boot + opened_halves xs
freely_most [] d = omega arith
freely_most (x ∷ xs) d =
    let rest : (boots_freely xs (written x d)).label.boot ≤ (written x d).label.boot + opened_halves xs = freely_most xs (written x d) in
    omega (arith, rest, written_most x xs d)

cut_most : (how : Cut) (b : Bool) (x : BootWrite) (xs : List BootWrite) (d : Disk) → booted_number (CutOff (cond b (written x d) d) how) ≤ d.label.boot + opened_halves (x ∷ xs)
cut_most how true x xs d = omega (arith, written_most x xs d)
cut_most how false x xs d = omega arith

armed_most : (a : Armed) (left : ℕ) (xs : List BootWrite) (d : Disk) → booted_number (boots_armed a left xs d) ≤ d.label.boot + opened_halves xs
armed_most a left [] d = omega arith
armed_most a zero (x ∷ xs) d = cut_most a.how (is_left_written a.how true x) x xs d
armed_most a (suc zero) (x ∷ xs) d = cut_most a.how (is_left_written a.how false x) x xs d
armed_most a (suc (suc left)) (x ∷ xs) d =
    let rest : booted_number (boots_armed a left xs (written x d)) ≤ (written x d).label.boot + opened_halves xs = armed_most a left xs (written x d) in
    omega (arith, rest, written_most x xs d)

pub boots_most : (o : Option Armed) (d : Disk) → booted_number (boots o d) ≤ d.label.boot + 1
boots_most None d = let k : (boots_freely (boot_writes d) d).label.boot ≤ d.label.boot + opened_halves (boot_writes d) = freely_most (boot_writes d) d in omega (arith, k, opens_one d.label.both_open d.both_open)
boots_most (Some a) d = let k : booted_number (boots_armed a a.left (boot_writes d) d) ≤ d.label.boot + opened_halves (boot_writes d) = armed_most a a.left (boot_writes d) d in omega (arith, k, opens_one d.label.both_open d.both_open)

-- ---- each record has some text ----

behind : (xs ys : List ℕ) → length ys ≤ length (xs ++ ys)
behind [] ys = omega arith
behind (x ∷ xs) ys = omega (arith, behind xs ys)

pub some_text : (n : ℕ) (q : Record) → 1 ≤ told_size n (Shown q)
some_text n q =
    let k : 1 ≤ length (entry_text n q) = behind (number n ++ gap ++ record_text q) (codes "\n") in
    omega (arith, k)

-- ---- the world ----

-- no boot number is greater than the bytes of text and one
pub record Low (w : World) : Type 0 where
  pub boots : (s : ℕ) → boot_number w s ≤ w.text + 1
  pub room : w.text ≤ 134217728

within : (packets bytes text : ℕ) → limit_passed packets bytes text ≡ None → text ≤ 134217728
within packets bytes text none = grind (arith, nat_tests)

happened_low : (n : ℕ) (ps : List Packet) (told : List Told) (change : World → World) (w : World) → ((s : ℕ) → boot_number (change w) s ≤ w.text + total (told_size n) told + 1) → Low w → Low (happened n ps told change w)
happened_low n ps told change w raised h = by_over w.over
  where
    bytes : ℕ
    bytes = w.bytes + total packet_size ps

    text : ℕ
    text = w.text + total (told_size n) told

    by_limit : (l : Option Limit) → limit_passed (w.packets + length ps) bytes text ≡ l → Low (unless_over l n ps told change (w.packets + length ps) bytes text w)
    by_limit (Some l) is = record { boots = h.boots; room = h.room }
    by_limit None is = record { boots = raised; room = within (w.packets + length ps) bytes text is }

    by_over : (o : Option Limit) → Low (happened_of o n ps told change w)
    by_over (Some l) = h
    by_over None = by_limit (limit_passed (w.packets + length ps) bytes text) refl

-- nothing boots in it
still_low : (n : ℕ) (ps : List Packet) (told : List Told) (w : World) → Low w → Low (happened n ps told (λ now. now) w)
still_low n ps told w h = happened_low n ps told (λ now. now) w (λ s. (let k : boot_number w s ≤ w.text + 1 = h.boots s in omega (arith, k))) h

-- one site comes to this place
put_low : (s : ℕ) (p : Place) (w : World) (extra : ℕ) → boot_on (Some p) ≤ w.text + extra + 1 → Low w → (t : ℕ) → boot_number (puts s p w) t ≤ w.text + extra + 1
put_low s p w extra here h t =
    at_each s t (boot_number (puts s p w) t ≤ w.text + extra + 1)
    (λ e. subst (λ (u : ℕ). boot_number (puts s p w) u ≤ w.text + extra + 1) e (let k : boot_number (puts s p w) s ≡ boot_on (Some p) = ap boot_on (puts_same s p w) in omega (arith, k, here)))
    (λ ne. let k : boot_number (puts s p w) t ≡ boot_number w t = ap boot_on (puts_other s t p w ne) in let g : boot_number w t ≤ w.text + 1 = h.boots t in omega (arith, k, g))

own_low : (s : ℕ) (p q : Place) (w : World) (extra : ℕ) → place_at w s ≡ Some p → boot_on (Some q) ≡ boot_on (Some p) → Low w → boot_on (Some q) ≤ w.text + extra + 1
own_low s p q w extra here same h =
    let k : boot_number w s ≤ w.text + 1 = h.boots s in
    let e : boot_number w s ≡ boot_on (Some p) = ap boot_on here in
    omega (arith, k, e, same)

acts_low : (n s : ℕ) (v : SiteView) (o : Outcome SiteView) (w : World) → place_at w s ≡ Some (Running v) → o.view.boot ≡ v.boot → Low w → Low (acts n s v o w)
acts_low n s v o w here same h =
    acts_cases Low n s v o w
    (happened_low n o.sent o.told (λ now. puts s (Running o.view) now) w (put_low s (Running o.view) w (total (told_size n) o.told) (own_low s (Running v) (Running o.view) w (total (told_size n) o.told) here same h) h) h)
    (λ a. happened_low n o.sent o.told (λ now. puts s (Running o.view) (arms a now)) w (put_low s (Running o.view) (arms a w) (total (told_size n) o.told) (own_low s (Running v) (Running o.view) w (total (told_size n) o.told) here same h) (record { boots = h.boots; room = h.room })) h)
    (λ d a e. happened_low n [] (cut_told s v.store d a.how a.left) (stops_with s (cut_disk v.boot v.store d a.how a.left)) w
    (put_low s (Stopped (cut_disk v.boot v.store d a.how a.left)) w (total (told_size n) (cut_told s v.store d a.how a.left)) (own_low s (Running v) (Stopped (cut_disk v.boot v.store d a.how a.left)) w (total (told_size n) (cut_told s v.store d a.how a.left)) here refl h) h) h)

-- a boot prints a record
booted_low : (n s : ℕ) (d : Disk) (q : Record) (p : Place) (change : World → World) (w : World) → place_at w s ≡ Some (Stopped d) → boot_on (Some p) ≤ d.label.boot + 1 → ((t : ℕ) → boot_number (change w) t ≡ boot_number (puts s p w) t) → Low w → Low (happened n [] (Shown q ∷ []) change w)
booted_low n s d q p change w here most places h =
    happened_low n [] (Shown q ∷ []) change w
    (λ t. let k : boot_number (puts s p w) t ≤ w.text + total (told_size n) (Shown q ∷ []) + 1 = put_low s p w (total (told_size n) (Shown q ∷ [])) here_low h t in omega (arith, k, places t))
    h
  where
    here_low : boot_on (Some p) ≤ w.text + total (told_size n) (Shown q ∷ []) + 1
    here_low =
        let k : boot_number w s ≤ w.text + 1 = h.boots s in
        let e : boot_number w s ≡ d.label.boot = ap boot_on here in
        let one : 1 ≤ told_size n (Shown q) = some_text n q in
        omega (arith, k, e, one, most)

boots_low : (n s : ℕ) (d : Disk) (b : Booted) (w : World) → place_at w s ≡ Some (Stopped d) → booted_number b ≤ d.label.boot + 1 → Low w → Low (boots_as n s b w)
boots_low n s d (Whole x None) w here most h = booted_low n s d _ (Running _) _ w here most (λ t. refl) h
boots_low n s d (Whole x (Some a)) w here most h = booted_low n s d _ (Running _) _ w here most (λ t. refl) h
boots_low n s d (CutOff x how) w here most h = booted_low n s d _ (Stopped x) _ w here most (λ t. refl) h

same_boot : (c : Config) (s : ℕ) (v : SiteView) (o : Outcome SiteView) → Sends s v.boot o → o.view.boot ≡ v.boot
same_boot c s v o own = own.view

pub low_kept : (c : Config) → Kept c Low
low_kept c = record {
  steps = λ n s e v w here own h. acts_low n s v (step c s (links_of w s) v e) w here (same_boot c s v (step c s (links_of w s) v e) (step_sends c s v.boot (links_of w s) v e refl)) h;
  receives = λ n x v w here sent h. acts_low n x.packet.to v (step c x.packet.to (links_of (passed x.number w) x.packet.to) v (Receives x.packet)) (passed x.number w) here (same_boot c x.packet.to v (step c x.packet.to (links_of (passed x.number w) x.packet.to) v (Receives x.packet)) (step_sends c x.packet.to v.boot (links_of (passed x.number w) x.packet.to) v (Receives x.packet) refl)) (record { boots = h.boots; room = h.room });
  passes = λ k w h. record { boots = h.boots; room = h.room };
  drops = λ k w h. record { boots = h.boots; room = h.room };
  recuts = λ xs w h. record { boots = h.boots; room = h.room };
  arming = λ a w h. record { boots = h.boots; room = h.room };
  voiding = λ n w h. still_low n [] _ w h;
  budgets = λ n w h. still_low n [] _ w h;
  pending = λ n w h. still_low n [] _ w h;
  stopping = λ n s v w here h. happened_low n [] _ (stops_with s (disk_of v)) w (put_low s (Stopped (disk_of v)) w _ (own_low s (Running v) (Stopped (disk_of v)) w _ here refl h) h) h;
  booting = λ n s d w here h. boots_low n s d (boots (script_of w s) d) w here (boots_most (script_of w s) d) h;
}

-- ---- the first world ----

first_boots : (c : Config) (s : ℕ) (o : Option Place) → place_at (first_world c) s ≡ o → boot_on o ≤ 1
first_boots c s None e = omega arith
first_boots c s (Some p) e = first_places c (λ t q. boot_on (Some q) ≤ 1) (λ t own. omega arith) s p e

pub first_low : (c : Config) → Low (first_world c)
first_low c = record { boots = λ s. (let k : boot_number (first_world c) s ≤ 1 = first_boots c s (place_at (first_world c) s) refl in omega (arith, k)); room = omega arith }

pub run_low : (c : Config) (lines : List ScheduleLine) → Low (run_in c lines)
run_low c lines = every_run c Low (low_kept c) (first_low c) lines

pub run_boots_low : (c : Config) (lines : List ScheduleLine) → BootsAreLow (run_in c lines)
run_boots_low c lines s =
    let h : Low (run_in c lines) = run_low c lines in
    let k : boot_number (run_in c lines) s ≤ (run_in c lines).text + 1 = h.boots s in
    omega (arith, k, h.room)

pub run_next_low : (c : Config) (lines : List ScheduleLine) → NextBootsAreLow (run_in c lines)
run_next_low c lines s d here =
    let k : boot_number (run_in c lines) s ≤ 134217729 = run_boots_low c lines s in
    let e : boot_number (run_in c lines) s ≡ d.label.boot = ap boot_on here in
    let most : booted_number (boots (script_of (run_in c lines) s) d) ≤ d.label.boot + 1 = boots_most (script_of (run_in c lines) s) d in
    omega (arith, k, e, most)
