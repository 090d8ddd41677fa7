-- What sites want in the world after an event: a site that acts, and the others.
use Rattle.std.proofs.Common.{◌≡◌, ℕ, true, List, [], ◌∷◌, Option, Some, None, refl, sym, ◌∙◌, ap, subst, inl, inr}
use Rattle.role_steps.proofs.of_plain_facts.Options.{none_some, some_same}
use Rattle.locus_ids.specs.declared.config.Config.{Config}
use Rattle.locus_ids.specs.declared.ids.EpochId.{EpochId}
use Rattle.locus_ids.specs.declared.ids.FileId.{FileId}
use Rattle.locus_ids.specs.declared.ids.Stamp.{Stamp}
use Rattle.locus_ids.specs.declared.sites.Links.{Links}
use Rattle.wire_messages.specs.declared.body.Body.{Body}
use Rattle.wire_messages.specs.declared.body.Body.TheVariants as body
use Rattle.wire_messages.specs.declared.packet.Packet.{Packet}
use Rattle.role_steps.specs.Own.{Every}
use Rattle.role_steps.specs.Views.{SiteView, Told, Outcome, Event}
use Rattle.role_steps.specs.declared.synchronizing.LastLook.{LastLook}
use Rattle.role_steps.specs.declared.synchronizing.SyncTable.{SyncTable}
use Rattle.the_run.specs.Steps.{step}
use Rattle.the_run.specs.Worlds.{World, Place, Running, Numbered, Line, place_at, told_onto, puts}
use Rattle.the_run.proofs.Boots.{at_each, every_weaker}
use Rattle.the_run.proofs.Events.{puts_other, puts_same}
use Rattle.row_laws.specs.of_run_laws.Walks.Laws.{EventsKeep, table_law}
use Rattle.row_laws.proofs.of_run_laws.Walks.Premises.{table_events}
use Rattle.row_laws.proofs.of_run_laws.Walks.TableWalks.{step_tables}
use Rattle.tree_model.specs.Epochs.{has_joined}
use Rattle.tree_laws.specs.Deltas.{DifferIn}
use Rattle.tree_laws.specs.Doing.{AllTold, IsAdopted}
use Rattle.tree_laws.specs.Instances.{Stands}
use Rattle.tree_laws.specs.Packets.{BodyFact, PacketFact}
use Rattle.tree_laws.specs.Printed.{entries}
use Rattle.store_laws.specs.OneTree.Places.{AllAt, AllOf, NumberedFact}
use Rattle.store_laws.specs.OneTree.Rest.{AllRest, Past, more}
use Rattle.store_laws.specs.OneTree.Wants.{BodyAsked, IsAsked, IsPlain, IsTidy, WantsAt, WantsIn}
use Rattle.store_laws.proofs.OneTree.Composing.{past_more}
use Rattle.store_laws.proofs.OneTree.Foreign.{apart_of}
use Rattle.store_laws.proofs.OneTree.WantsLines.{wants_lines}
use Rattle.store_laws.proofs.OneTree.WantsParts.{AnswersSo, BodySo, PartWants, SentSo}
use Rattle.store_laws.proofs.OneTree.WantsSites.{table_plain}

-- ---- from one world to another ----

-- what sites wanted they want still
abbrev pub WantsStay : Config → (ℕ → Option Place) → List Line → (ℕ → Option Place) → List Line → Type 0
WantsStay c old trace new later = (site : ℕ) (e : EpochId) (f : FileId) (wanted own : Stamp) → Stands c trace f wanted → has_joined (entries trace) site e ≡ true → WantsIn c old trace site e f wanted own → WantsIn c new later site e f wanted own

abbrev pub DiffersStay : Config → List Line → List Line → Type 0
DiffersStay c trace later = (f : FileId) (a b : Stamp) (pages : List ℕ) → DifferIn c trace f a b pages → DifferIn c later f a b pages

abbrev pub NumberedAsked : Config → (ℕ → Option Place) → List Line → Numbered → Type 0
NumberedAsked c places trace x = IsAsked c places trace x.packet

-- so each packet is asked still
module _ (c : Config) (old : ℕ → Option Place) (trace : List Line) (new : ℕ → Option Place) (later : List Line) (keep : WantsStay c old trace new later) (differ : DiffersStay c trace later) where
  body_asked : (p : Packet) (b : Body) → BodyFact c trace p b → BodyAsked c old trace p b → BodyAsked c new later p b
  body_asked p (body.Want file wanted own) fact h = keep p.from p.epoch file wanted own fact.wanted_stands fact.joined h
  body_asked p (body.Delta file wanted pages) fact h = (h.0, keep p.to p.epoch file wanted h.0 fact.wanted_stands fact.joined h.1, differ file h.0 wanted pages h.2)
  body_asked p _ fact h = tt

  pub asked_later : (p : Packet) → PacketFact c trace p → IsAsked c old trace p → IsAsked c new later p
  asked_later p fact h = body_asked p p.body fact h

  pub all_later : (xs : List Numbered) → Every (NumberedFact c trace) xs → Every (NumberedAsked c old trace) xs → Every (NumberedAsked c new later) xs
  all_later [] facts h = tt
  all_later (x ∷ xs) facts h = (asked_later x.packet facts.0 h.0, all_later xs facts.1 h.1)

pub alike_stay : (c : Config) (old : ℕ → Option Place) (trace : List Line) (new same : ℕ → Option Place) (later : List Line) → ((t : ℕ) → same t ≡ new t) → WantsStay c old trace new later → WantsStay c old trace same later
alike_stay c old trace new same later alike k = λ site e f wanted own stands joined h v here. k site e f wanted own stands joined h v (sym (alike site) ∙ here)

-- ---- the others ----

none_adopted : (c : Config) (n s t : ℕ) → (s ≡ t → ⊥) → (told : List Told) (trace : List Line) → Past c trace → AllTold c n trace told → AllRest c n trace told → AllOf c n trace s told → AllAt (λ l x. IsAdopted t x → ⊥) n trace told
none_adopted c n s t ne [] trace past may rest own = tt
none_adopted c n s t ne (x ∷ xs) trace past may rest own = ((apart_of c trace s t x past.followed ne own.0).adopted, none_adopted c n s t ne xs (more n x trace) (past_more c n x trace past may.0 rest.0) may.1 rest.1 own.1)

-- where no site has become another place
pub nobody_stays : (c : Config) (n : ℕ) (told : List Told) (w : World) → Past c w.trace → AllTold c n w.trace told → AllRest c n w.trace told → ((t : ℕ) → AllAt (λ l x. IsAdopted t x → ⊥) n w.trace told) → WantsStay c (place_at w) w.trace (place_at w) (told_onto n told w.trace)
nobody_stays c n told w past may rest none = λ t e f wanted own stands joined h v here x at is. wants_lines c n t v.pulls f wanted own told w.trace past may rest (none t) stands (h v here x at is)

-- what a place has of the wants of its site, where it runs
abbrev pub PlaceWants : Config → ℕ → World → List Line → Place → Type 0
PlaceWants c s w later new = (v : SiteView) → new ≡ Running v → (e : EpochId) (f : FileId) (wanted own : Stamp) → Stands c w.trace f wanted → has_joined (entries w.trace) s e ≡ true → WantsIn c (place_at w) w.trace s e f wanted own → WantsAt c later s v e f wanted own

-- one site becomes this place, and the others stay
pub placed_stays : (c : Config) (n s : ℕ) (new : Place) (told : List Told) (w : World) → Past c w.trace → AllTold c n w.trace told → AllRest c n w.trace told → AllOf c n w.trace s told → PlaceWants c s w (told_onto n told w.trace) new → WantsStay c (place_at w) w.trace (place_at (puts s new w)) (told_onto n told w.trace)
placed_stays c n s new told w past may rest own at = λ t e f wanted o stands joined h v here. at_each s t (WantsAt c (told_onto n told w.trace) t v e f wanted o)
    (λ q. subst (λ (u : ℕ). WantsAt c (told_onto n told w.trace) u v e f wanted o) q
    (at v (some_same new (Running v) (sym (puts_same s new w) ∙ (ap (place_at (puts s new w)) q ∙ here))) e f wanted o stands
    (subst (λ (u : ℕ). has_joined (entries w.trace) u e ≡ true) (sym q) joined) (subst (λ (u : ℕ). WantsIn c (place_at w) w.trace u e f wanted o) (sym q) h)))
    (λ ne x in_it is. wants_lines c n t v.pulls f wanted o told w.trace past may rest (none_adopted c n s t ne told w.trace past may rest own) stands (h v (sym (puts_other s t new w ne) ∙ here) x in_it is))

-- ---- what is sent ----

-- the packet that has come is so
abbrev pub CameAsked : Config → (ℕ → Option Place) → List Line → Option Packet → Type 0
CameAsked c places trace None = Unit {0}
CameAsked c places trace (Some q) = PacketFact c trace q × IsAsked c places trace q

pub running_view : (v u : SiteView) → Running v ≡ Running u → v ≡ u
running_view v u e = cc

module _ (c : Config) (places : ℕ → Option Place) (later : List Line) (s : ℕ) (v : SiteView) (at : places s ≡ Some (Running v)) where
  answer_asked : (q p : Packet) (file : FileId) (wanted : Stamp) (pages : List ℕ) → IsAsked c places later q → AnswersSo c later (Some q) p file wanted pages → BodyAsked c places later p (body.Delta file wanted pages)
  answer_asked q p file wanted pages a h = (h.0, subst (λ (e : EpochId). WantsIn c places later p.to e file wanted h.0) (sym h.3) (subst (λ (t : ℕ). WantsIn c places later t q.epoch file wanted h.0) (sym h.2) (subst (BodyAsked c places later q) h.1 a)), h.4)

  new_body : (came : Option Packet) → ((q : Packet) → came ≡ Some q → IsAsked c places later q) → (p : Packet) (b : Body) → BodySo c later s v came p b → BodyAsked c places later p b
  new_body came a p (body.Want file wanted own) h = λ view here. subst (λ (u : ℕ). WantsAt c later u view p.epoch file wanted own) (sym h.0)
      (subst (λ (u : SiteView). WantsAt c later s u p.epoch file wanted own) (running_view v view (some_same (Running v) (Running view) (sym at ∙ (ap places (sym h.0) ∙ here)))) h.1)
  new_body None a p (body.Delta file wanted pages) h = absurd h
  new_body (Some q) a p (body.Delta file wanted pages) h = answer_asked q p file wanted pages (a q refl) h
  new_body came a p _ h = tt

  pub new_asked : (came : Option Packet) → ((q : Packet) → came ≡ Some q → IsAsked c places later q) → (ps : List Packet) → Every (SentSo c later s v came) ps → Every (IsAsked c places later) ps
  new_asked came a [] h = tt
  new_asked came a (p ∷ ps) h = (new_body came a p p.body h.0, new_asked came a ps h.1)

-- ---- looks ----

abbrev pub LookPlain : LastLook → Type 0
LookPlain l = IsPlain l.body

abbrev pub LooksPlain : SyncTable → Type 0
LooksPlain t = Every LookPlain t.looks

looks_keep : (c : Config) (me : ℕ) → EventsKeep (table_law LookPlain LooksPlain) c me
looks_keep c me = table_events LookPlain LooksPlain c me (λ l h. table_plain l.body h) (λ t h. h) (λ t u h e k. k) (tt, (tt, (tt, (tt, tt))))

-- ---- what a site does ----

-- what an outcome of a site wants and sends
pub record Wanted (c : Config) (n s : ℕ) (v : SiteView) (o : Outcome SiteView) (w : World) : Type 0 where
  pub came : Option Packet
  pub asked : CameAsked c (place_at w) w.trace came
  pub wants : PartWants c n w.trace s v o.view o.told came o.sent
  pub looks : Every LooksPlain v.tables → Every LooksPlain o.view.tables

pub step_looks : (c : Config) (s : ℕ) (links : Links) (v : SiteView) (e : Event) → Every LooksPlain v.tables → Every LooksPlain (step c s links v e).view.tables
step_looks c s links v e h = step_tables (table_law LookPlain LooksPlain) c s (looks_keep c s) links v e h

pub came_later : (c : Config) (old : ℕ → Option Place) (trace : List Line) (new : ℕ → Option Place) (later : List Line) → WantsStay c old trace new later → DiffersStay c trace later → (came : Option Packet) → CameAsked c old trace came → (q : Packet) → came ≡ Some q → IsAsked c new later q
came_later c old trace new later keep differ None a q e = absurd (none_some q e)
came_later c old trace new later keep differ (Some p) a q e = subst (IsAsked c new later) (some_same p q e) (asked_later c old trace new later keep differ p a.0 a.1)

pub outcome_tidy : (c : Config) (n s : ℕ) (v : SiteView) (o : Outcome SiteView) (w : World) → Wanted c n s v o w → IsTidy v → IsTidy o.view
outcome_tidy c n s v o w k h = record { ascends = k.wants.rises h.ascends; looks = k.looks h.looks }
