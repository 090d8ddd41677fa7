-- A site that is in an epoch, by the trace, has its place in the world.
use Rattle.std.proofs.Common.{◌≡◌, ◌≢◌, ℕ, ◌==◌, Bool, true, false, cond, List, [], ◌∷◌, map, Option, Some, None, refl, sym, ◌∙◌, ap, subst, arith}
use Rattle.std.proofs.lemmas.Bool.Decides.{nat_tests}
use Rattle.locus_ids.specs.declared.config.Config.{Config}
use Rattle.trace_book.specs.declared.record.Record.{Record}
use Rattle.trace_book.specs.declared.record.Record.TheVariants as says
use Rattle.trace_book.specs.declared.record.StopCause.{StopCause}
use Rattle.wire_messages.specs.declared.packet.Packet.{Packet}
use Rattle.role_steps.specs.Views.{SiteView, Told, Shown, Promises, Outcome, DiskWrite, Event, Receives}
use Rattle.the_run.specs.Disks.{Disk, Booted, Whole, CutOff, boots, cut_disk, is_on_disk}
use Rattle.the_run.specs.Kept.{IsOwn, Kept}
use Rattle.the_run.specs.Runs.{boots_as, packet_record}
use Rattle.the_run.specs.Steps.{step}
use Rattle.the_run.specs.Worlds.{World, Place, Running, Stopped, Numbered, Line, place_at, links_of, script_of, happened, told_onto, puts, arms, passed, stops_with, cut_told, cause_of, acts, fresh, first_world}
use Rattle.the_run.proofs.Boots.{at_each, acts_cases}
use Rattle.the_run.proofs.Events.{happened_keeps, puts_other, puts_same}
use Rattle.run_laws.specs.Naming.{Deeds, DeedsOf, Fine, Good}
use Rattle.run_laws.specs.Standing.{Standing, nowhere, after_record, after_told, standing, OwnRecord, OwnMove, OwnMoves, standing_of}
use Rattle.run_laws.specs.Words.{InsideRecord, InsideWrite}
use Rattle.run_laws.proofs.Run.{good_kept, first_good, was_sent}
use Rattle.run_laws.proofs.Steps.{EventNames, step_fine}

-- ---- what another site tells ----

other_case : (t s : ℕ) (a b : Standing) → s ≢ t → cond (s == t) a b ≡ b
other_case t s a b ne = subst (λ (x : Bool). cond x a b ≡ b) (sym (differ s t ne)) refl
  where
    differ : (a b : ℕ) → a ≢ b → (a == b) ≡ false
    differ a b h = grind (arith, nat_tests)

other_record : (s t : ℕ) (now mine : Standing) (r : Record) → s ≢ t → OwnRecord s mine r → after_record t r now ≡ now
other_record s t now mine (says.Up u boot) ne h = other_case t u nowhere now (subst (λ (x : ℕ). x ≢ t) (sym h) ne)
other_record s t now mine (says.Join u id members) ne h = other_case t u _ now (subst (λ (x : ℕ). x ≢ t) (sym h.0) ne)
other_record s t now mine (says.Leave u id) ne h = other_case t u _ now (subst (λ (x : ℕ). x ≢ t) (sym h.0) ne)
other_record s t now mine _ ne h = refl

other_told : (s t : ℕ) (now mine : Standing) (x : Told) → s ≢ t → OwnMove s mine x → after_told t x now ≡ now
other_told s t now mine (Shown r) ne h = other_record s t now mine r ne h
other_told s t now mine (Promises u id reach) ne h = other_case t u _ now (subst (λ (x : ℕ). x ≢ t) (sym h.0) ne)
other_told s t now mine _ ne h = refl

other_standing : (s t n : ℕ) (mine : Standing) (told : List Told) (trace : List Line) → s ≢ t → OwnMoves s mine told → standing t (told_onto n told trace) ≡ standing t trace
other_standing s t n mine [] trace ne h = refl
other_standing s t n mine (x ∷ xs) trace ne h = other_standing s t n (after_told s x mine) xs (record { number = n; told = x } ∷ trace) ne h.1 ∙ other_told s t (standing t trace) mine x ne h.0

-- ---- the world ----

-- who has no place is in no epoch
abbrev pub OnlyPlaced : World → Type 0
OnlyPlaced w = (t : ℕ) → place_at w t ≡ None → (standing t w.trace).epoch ≡ None

pub record Stands (w : World) : Type 0 where
  pub good : Good w
  pub only : OnlyPlaced w

-- an event of one site, which keeps its place
happened_only : (s n : ℕ) (mine : Standing) (ps : List Packet) (told : List Told) (change : World → World) (w : World) → OwnMoves s mine told → ((t : ℕ) → place_at (change w) t ≡ None → (s ≢ t) × (place_at w t ≡ None)) → OnlyPlaced w → OnlyPlaced (happened n ps told change w)
happened_only s n mine ps told change w law places g =
    happened_keeps OnlyPlaced n ps told change w g (λ l. g)
    (λ k b i t none. (let h : (s ≢ t) × (place_at w t ≡ None) = places t none in ap (λ (x : Standing). x.epoch) (other_standing s t n mine told w.trace h.0 law) ∙ g t h.1))

some_none : (p : Place) → ◌≡◌ {A = Option Place} (Some p) None → ⊥
some_none p e = cc

puts_none : (s : ℕ) (p : Place) (w u : World) → ((t : ℕ) → place_at u t ≡ place_at w t) → (t : ℕ) → place_at (puts s p u) t ≡ None → (s ≢ t) × (place_at w t ≡ None)
puts_none s p w u same t none = at_each s t ((s ≢ t) × (place_at w t ≡ None))
    (λ eq. absurd (some_none p (sym (ap (place_at (puts s p u)) (sym eq) ∙ puts_same s p u) ∙ none)))
    (λ ne. (ne, sym (same t) ∙ (sym (puts_other s t p u ne) ∙ none)))

written_law : (o : Option DiskWrite) (d : DiskWrite) → o ≡ Some d → InsideWrite o → InsideRecord d.says
written_law o d e h = subst InsideWrite e h

inside_own : (s : ℕ) (now : Standing) (r : Record) → InsideRecord r → OwnRecord s now r
inside_own s now (says.Up t boot) h = absurd h
inside_own s now (says.Join t id members) h = absurd h
inside_own s now (says.Leave t id) h = absurd h
inside_own s now _ h = tt

cut_law : (s : ℕ) (now : Standing) (b : Bool) (r : Record) (how : StopCause) → InsideRecord r → OwnMoves s now (cond b (Shown r ∷ Shown (says.Stopped s how) ∷ []) (Shown (says.Stopped s how) ∷ []))
cut_law s now true r how h = (inside_own s now r h, (tt, tt))
cut_law s now false r how h = (tt, tt)

acts_only : (K : Deeds) (n s : ℕ) (v : SiteView) (o : Outcome SiteView) (w : World) → Fine K s v o → OnlyPlaced w → OnlyPlaced (acts n s v o w)
acts_only K n s v o w f g =
    acts_cases OnlyPlaced n s v o w
    (happened_only s n (standing_of v) o.sent o.told (λ now. puts s (Running o.view) now) w f.law (puts_none s (Running o.view) w w (λ t. refl)) g)
    (λ a. happened_only s n (standing_of v) o.sent o.told (λ now. puts s (Running o.view) (arms a now)) w f.law (puts_none s (Running o.view) w (arms a w) (λ t. refl)) g)
    (λ d a e. happened_only s n nowhere [] (cut_told s v.store d a.how a.left) (stops_with s (cut_disk v.boot v.store d a.how a.left)) w (cut_law s nowhere (is_on_disk v.store d a.how a.left) d.says (cause_of a.how) (written_law o.written d e f.written))
    (puts_none s (Stopped (cut_disk v.boot v.store d a.how a.left)) w w (λ t. refl)) g)

-- what the world itself tells moves no site
told_only : (n : ℕ) (told : List Told) (w : World) → ((t : ℕ) → standing t (told_onto n told w.trace) ≡ standing t w.trace) → OnlyPlaced w → OnlyPlaced (happened n [] told (λ now. now) w)
told_only n told w still g = happened_keeps OnlyPlaced n [] told (λ now. now) w g (λ l. g) (λ k b i t none. ap (λ (x : Standing). x.epoch) (still t) ∙ g t none)

listed_still : (n : ℕ) (xs : List Numbered) (trace : List Line) (t : ℕ) → standing t (told_onto n (map packet_record xs) trace) ≡ standing t trace
listed_still n [] trace t = refl
listed_still n (x ∷ xs) trace t = listed_still n xs (record { number = n; told = packet_record x } ∷ trace) t

stop_only : (n s : ℕ) (d : Disk) (why : StopCause) (w : World) → OnlyPlaced w → OnlyPlaced (happened n [] (Shown (says.Stopped s why) ∷ []) (stops_with s d) w)
stop_only n s d why w g = happened_only s n nowhere [] (Shown (says.Stopped s why) ∷ []) (stops_with s d) w (tt, tt) (puts_none s (Stopped d) w w (λ t. refl)) g

as_only : (n s : ℕ) (b : Booted) (w : World) → OnlyPlaced w → OnlyPlaced (boots_as n s b w)
as_only n s (Whole x None) w g = happened_only s n nowhere [] (Shown (says.Up s x.label.boot) ∷ []) _ w (refl, tt) (puts_none s (Running (fresh x.label.boot x.copies)) w w (λ t. refl)) g
as_only n s (Whole x (Some a)) w g = happened_only s n nowhere [] (Shown (says.Up s x.label.boot) ∷ []) _ w (refl, tt) (puts_none s (Running (fresh x.label.boot x.copies)) w w (λ t. refl)) g
as_only n s (CutOff x how) w g = stop_only n s x (cause_of how) w g

own_event : (J : Deeds) (e : Event) → IsOwn e → EventNames J e
own_event J (Receives p) h = absurd h
own_event J _ h = tt

pub stands_kept : (c : Config) → Kept c Stands
stands_kept c = record {
  steps = λ n s e v w here own g. record {
    good = (good_kept c).steps n s e v w here own g.good;
    only = acts_only (DeedsOf w.trace s) n s v (step c s (links_of w s) v e) w (step_fine (DeedsOf w.trace s) s c (links_of w s) v e (DeedsOf w.trace s) (g.good.views s v here) (own_event (DeedsOf w.trace s) e own)) g.only;
  };
  receives = λ n x v w here sent g. record {
    good = (good_kept c).receives n x v w here sent g.good;
    only = acts_only (DeedsOf w.trace x.packet.to) n x.packet.to v (step c x.packet.to (links_of (passed x.number w) x.packet.to) v (Receives x.packet)) (passed x.number w)
        (step_fine (DeedsOf w.trace x.packet.to) x.packet.to c (links_of (passed x.number w) x.packet.to) v (Receives x.packet) (DeedsOf w.trace x.packet.from) (g.good.views x.packet.to v here) (was_sent w x sent g.good)) g.only;
  };
  passes = λ k w g. record { good = (good_kept c).passes k w g.good; only = g.only };
  drops = λ k w g. record { good = (good_kept c).drops k w g.good; only = g.only };
  recuts = λ xs w g. record { good = (good_kept c).recuts xs w g.good; only = g.only };
  arming = λ a w g. record { good = (good_kept c).arming a w g.good; only = g.only };
  voiding = λ n w g. record { good = (good_kept c).voiding n w g.good; only = told_only n (Shown says.Void ∷ []) w (λ t. refl) g.only };
  budgets = λ n w g. record { good = (good_kept c).budgets n w g.good; only = told_only n (Shown says.Budget ∷ []) w (λ t. refl) g.only };
  pending = λ n w g. record { good = (good_kept c).pending n w g.good; only = told_only n (map packet_record w.underway) w (listed_still n w.underway w.trace) g.only };
  stopping = λ n s v w here g. record { good = (good_kept c).stopping n s v w here g.good; only = stop_only n s _ _ w g.only };
  booting = λ n s d w here g. record { good = (good_kept c).booting n s d w here g.good; only = as_only n s (boots (script_of w s) d) w g.only };
}

pub first_stands : (c : Config) → Stands (first_world c)
first_stands c = record { good = first_good c; only = λ t none. refl }
