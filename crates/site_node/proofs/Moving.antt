-- What is made together of what happens to a site one after the other.
use Rattle.std.proofs.Common.{◌≡◌, ℕ, refl, sym, ap, ◌∙◌, subst}
use Rattle.locus_ids.specs.declared.config.Config.{Config}
use Rattle.disk_model.specs.Disk.{Moment}
use Rattle.wire_messages.specs.Outboxes.{Outgoing}
use Rattle.role_steps.specs.Views.{SiteView, Outcome, quiet, and_then}
use Rattle.site_packs.specs.Packs.{PacksState, AreShown, Stand, SamePlaces, groups_of}
use Rattle.site_parts.proofs.of_site_tables.Giving.{gives_none, gives_as, gives_then}
use Rattle.site_node.specs.Views.{view_of, Moves, Works}
use Rattle.site_node.specs.declared.node.SiteNode.{SiteNode}

-- ---- the same place ----

pub same_places : (p q : PacksState) → q ≡ p → SamePlaces p q
same_places p q e = record { site = ap (λ x. x.site) e; groups = ap groups_of e }

pub places_then : (p q r : PacksState) → SamePlaces p q → SamePlaces q r → SamePlaces p r
places_then p q r h k = record { site = k.site ∙ h.site; groups = k.groups ∙ h.groups }

-- ---- a site that works without its disk ----

pub works_none : (n : SiteNode) (out : Outgoing) → Works quiet n n out out
works_none n out = record { gives = λ image h. gives_none (view_of n image) out; packs = refl; config = refl; me = refl }

pub works_as : (f g : SiteView → Outcome SiteView) (old new : SiteNode) (a b : Outgoing) → ((v : SiteView) → g v ≡ f v) → Works f old new a b → Works g old new a b
works_as f g old new a b e w = record { gives = λ image h. gives_as (f (view_of old image)) (g (view_of old image)) (view_of new image) a b (e (view_of old image)) (w.gives image h); packs = w.packs; config = w.config; me = w.me }

pub works_then : (f g : SiteView → Outcome SiteView) (old mid new : SiteNode) (a b c : Outgoing) → Works f old mid a b → Works g mid new b c → Works (λ v. and_then (f v) g) old new a c
works_then f g old mid new a b c w x = record {
  gives = λ image h. gives_then (f (view_of old image)) g (view_of mid image) (view_of new image) a b c (w.gives image h) (x.gives image (subst (λ (p : PacksState). AreShown p.packs image) (sym w.packs) h));
  packs = x.packs ∙ w.packs;
  config = x.config ∙ w.config;
  me = x.me ∙ w.me;
}

-- ---- a site that works over its disk ----

pub moves_work : (f : SiteView → Outcome SiteView) (old new : SiteNode) (m : Moment) (a b : Outgoing) → Stand old.packs m → Works f old new a b → Moves f old m new m a b
moves_work f old new m a b s w = record {
  gives = w.gives m.seen s.shown;
  stands = subst (λ (p : PacksState). Stand p m) (sym w.packs) s;
  places = same_places old.packs new.packs w.packs;
  config = w.config;
  me = w.me;
}

pub moves_none : (n : SiteNode) (m : Moment) (out : Outgoing) → Stand n.packs m → Moves quiet n m n m out out
moves_none n m out s = moves_work quiet n n m out out s (works_none n out)

pub moves_as : (f g : SiteView → Outcome SiteView) (old new : SiteNode) (m n : Moment) (a b : Outgoing) → ((v : SiteView) → g v ≡ f v) → Moves f old m new n a b → Moves g old m new n a b
moves_as f g old new m n a b e w = record { gives = gives_as (f (view_of old m.seen)) (g (view_of old m.seen)) (view_of new n.seen) a b (e (view_of old m.seen)) w.gives; stands = w.stands; places = w.places; config = w.config; me = w.me }

pub moves_then : (f g : SiteView → Outcome SiteView) (old mid new : SiteNode) (m n o : Moment) (a b c : Outgoing) → Moves f old m mid n a b → Moves g mid n new o b c → Moves (λ v. and_then (f v) g) old m new o a c
moves_then f g old mid new m n o a b c w x = record {
  gives = gives_then (f (view_of old m.seen)) g (view_of mid n.seen) (view_of new o.seen) a b c w.gives x.gives;
  stands = x.stands;
  places = places_then old.packs mid.packs new.packs w.places x.places;
  config = x.config ∙ w.config;
  me = x.me ∙ w.me;
}

-- ---- what depends on the cluster and the site ----

pub moves_from : (f : Config → ℕ → SiteView → Outcome SiteView) (old mid new : SiteNode) (m n : Moment) (a b : Outgoing) → mid.frame.config ≡ old.frame.config → mid.frame.me ≡ old.frame.me
    → Moves (f mid.frame.config mid.frame.me) mid m new n a b → Moves (f old.frame.config old.frame.me) mid m new n a b
moves_from f old mid new m n a b e g w = subst (λ (c : Config). Moves (f c old.frame.me) mid m new n a b) e (subst (λ (s : ℕ). Moves (f mid.frame.config s) mid m new n a b) g w)

pub works_from : (f : Config → ℕ → SiteView → Outcome SiteView) (old mid new : SiteNode) (a b : Outgoing) → mid.frame.config ≡ old.frame.config → mid.frame.me ≡ old.frame.me
    → Works (f mid.frame.config mid.frame.me) mid new a b → Works (f old.frame.config old.frame.me) mid new a b
works_from f old mid new a b e g w = subst (λ (c : Config). Works (f c old.frame.me) mid new a b) e (subst (λ (s : ℕ). Works (f mid.frame.config s) mid new a b) g w)
