-- What an event does for the agreement on epochs: its handler, and then the end of the event. All else that it does forms none.
use Rattle.std.proofs.Common.{ℕ, ◌⊎◌, Bool, true, false, List, [], ◌∷◌, ◌++◌, Option, Some, None, refl, ◌∙◌, subst, inl, inr}
use Rattle.locus_ids.specs.declared.sites.Links.{Links}
use Rattle.locus_ids.specs.declared.config.Config.{Config}
use Rattle.wire_messages.specs.declared.packet.Packet.{Packet}
use Rattle.role_steps.specs.Own.{Every}
use Rattle.role_steps.specs.Tables.{put_before, sorted_onto}
use Rattle.role_steps.specs.Views.{SiteView, Outcome, sends}
use Rattle.role_steps.specs.Epochs.{frame_in, passes_over, poll_repeats, install_repeats}
use Rattle.role_steps.specs.declared.rounds.InEpoch.{InEpoch}
use Rattle.role_steps.proofs.Sending.{every_append}
use Rattle.the_run.proofs.Boots.{every_weaker}
use Rattle.the_run.proofs.StepSends.{order_sent}
use Rattle.the_run.specs.Kept.{Among}
use Rattle.the_run.specs.Steps.{is_before, in_order, adopts_in, starts_mends_of, ends_event, whole, repeats_inside, repeats_of, repeats, ticks_after}
use Rattle.run_laws.specs.Naming.{Inner}
use Rattle.run_laws.proofs.InsideSteps.{adopts_of_inner, mends_of_inner}
use Rattle.run_laws.specs.Epochs.Forming.{Formless, TableFormless, FormlessSite}
use Rattle.row_laws.specs.Orderly.Effects.{SameCore}
use Rattle.run_laws.proofs.Epochs.Forms.{adopts_of_formless, mends_of_formless, inside_formless}
use Rattle.run_laws.proofs.Epochs.Steps.{passed_tables}

-- ---- elements of lists ----

pub among_left : {A : Type 0} (x : A) (xs ys : List A) → Among x xs → Among x (xs ++ ys)
among_left x [] ys h = absurd h
among_left x (y ∷ xs) ys (inl e) = inl e
among_left x (y ∷ xs) ys (inr h) = inr (among_left x xs ys h)

pub among_right : {A : Type 0} (x : A) (xs ys : List A) → Among x ys → Among x (xs ++ ys)
among_right x [] ys h = h
among_right x (y ∷ xs) ys h = inr (among_right x xs ys h)

-- behind the same first element
pub among_next : {A : Type 0} (x y : A) (xs ys : List A) → (Among x xs → Among x ys) → Among x (y ∷ xs) → Among x (y ∷ ys)
among_next x y xs ys f (inl e) = inl e
among_next x y xs ys f (inr h) = inr (f h)

put_here : {A : Type 0} (before : A → A → Bool) (x : A) (ys : List A) → Among x (put_before before x ys)
put_here before x [] = inl refl
put_here before x (y ∷ ys) = elim (before x y) as (λ b. Among x (elim b [ true ↦ x ∷ y ∷ ys | false ↦ y ∷ put_before before x ys ])) [ true ↦ inl refl | false ↦ inr (put_here before x ys) ]

put_there : {A : Type 0} (before : A → A → Bool) (z x : A) (ys : List A) → Among z ys → Among z (put_before before x ys)
put_there before z x [] h = absurd h
put_there before z x (y ∷ ys) h = elim (before x y) as (λ b. Among z (elim b [ true ↦ x ∷ y ∷ ys | false ↦ y ∷ put_before before x ys ])) [ true ↦ inr h | false ↦ among_next z y ys (put_before before x ys) (put_there before z x ys) h ]

onto_has : {A : Type 0} (before : A → A → Bool) (z : A) (done xs : List A) → Among z done ⊎ Among z xs → Among z (sorted_onto before done xs)
onto_has before z done [] (inl h) = h
onto_has before z done [] (inr h) = absurd h
onto_has before z done (x ∷ xs) (inl h) = onto_has before z (put_before before x done) xs (inl (put_there before z x done h))
onto_has {A = A} before z done (x ∷ xs) (inr (inl e)) = onto_has before z (put_before before x done) xs (inl (subst (λ (y : A). Among z (put_before before y done)) e (put_here before z done)))
onto_has before z done (x ∷ xs) (inr (inr h)) = onto_has before z (put_before before x done) xs (inr h)

pub order_has : (p : Packet) (ps : List Packet) → Among p ps → Among p (in_order ps)
order_has p ps h = onto_has is_before p [] ps (inr h)

-- ---- what agreement needs of a view ----

pub same_core : (v : SiteView) → SameCore v v
same_core v = record { boot = refl; promised = refl; installed = refl; round = refl; epoch = refl }

pub core_then : (v u w : SiteView) → SameCore v u → SameCore u w → SameCore v w
core_then v u w h g = record { boot = g.boot ∙ h.boot; promised = g.promised ∙ h.promised; installed = g.installed ∙ h.installed; round = g.round ∙ h.round; epoch = g.epoch ∙ h.epoch }

pub inner_core : (v : SiteView) (o : Outcome SiteView) → FormlessSite v o → Inner v o → SameCore v o.view
inner_core v o f i = record { boot = f.boot; promised = f.promised; installed = i.installed; round = f.round; epoch = f.epoch }

-- ---- an event as its handler and its end ----

-- the outcome is that of the handler, and then of the end of the event from a view that agreement doesn't tell from the
-- handler's; all else that is sent forms no epoch
pub record Formed (c : Config) (me : ℕ) (links : Links) (m o : Outcome SiteView) : Type 1 where
  pub mid : SiteView
  pub mid_is : SameCore m.view mid
  pub view : SameCore (passes_over c me links mid).view o.view
  pub every : (N : Packet → Type 0) → ((p : Packet) → Formless p → N p) → Every N m.sent → Every N (passes_over c me links mid).sent → Every N o.sent
  pub has : (p : Packet) → Among p m.sent ⊎ Among p (passes_over c me links mid).sent → Among p o.sent

ends_has : (c : Config) (me : ℕ) (links : Links) (v : SiteView) (p : Packet) → Among p (passes_over c me links v).sent → Among p (ends_event c me links v).sent
ends_has c me links v p h = among_left p (passes_over c me links v).sent _ h

ends_every : (N : Packet → Type 0) (c : Config) (me : ℕ) (links : Links) (v : SiteView) → Every TableFormless v.tables → ((p : Packet) → Formless p → N p) → Every N (passes_over c me links v).sent → Every N (ends_event c me links v).sent
ends_every N c me links v ok f h =
    let o : Outcome SiteView = passes_over c me links v in
    let g : FormlessSite o.view (starts_mends_of c me o.view.epoch o.view) = mends_of_formless c me o.view.epoch o.view (passed_tables c me links v.round v ok) in
    every_append N o.sent (starts_mends_of c me o.view.epoch o.view).sent h (every_weaker Formless N (starts_mends_of c me o.view.epoch o.view).sent f g.still.0)

ends_core : (c : Config) (me : ℕ) (links : Links) (v : SiteView) → Every TableFormless v.tables → SameCore (passes_over c me links v).view (ends_event c me links v).view
ends_core c me links v ok =
    let o : Outcome SiteView = passes_over c me links v in
    inner_core o.view (starts_mends_of c me o.view.epoch o.view) (mends_of_formless c me o.view.epoch o.view (passed_tables c me links v.round v ok)) (mends_of_inner c me o.view.epoch o.view refl)

pub whole_formed : (c : Config) (me : ℕ) (links : Links) (m : Outcome SiteView) (tries : SiteView → Outcome SiteView) → FormlessSite m.view (tries m.view) → Inner m.view (tries m.view) → Formed c me links m (whole c me links m tries)
whole_formed c me links m tries f i =
    let a : Outcome SiteView = tries m.view in
    let last : Outcome SiteView = ends_event c me links a.view in
    record {
      mid = a.view;
      mid_is = inner_core m.view a f i;
      view = ends_core c me links a.view f.tables;
      every = λ N g h k. every_append N a.sent (in_order (m.sent ++ last.sent)) (every_weaker Formless N a.sent g f.still.0)
          (order_sent N (m.sent ++ last.sent) (every_append N m.sent last.sent h (ends_every N c me links a.view f.tables g k)));
      has = λ p h. among_right p a.sent (in_order (m.sent ++ last.sent)) (order_has p (m.sent ++ last.sent) (either p h));
    }
  where
    either : (p : Packet) → Among p m.sent ⊎ Among p (passes_over c me links (tries m.view).view).sent → Among p (m.sent ++ (ends_event c me links (tries m.view).view).sent)
    either p (inl h) = among_left p m.sent _ h
    either p (inr h) = among_right p m.sent _ (ends_has c me links (tries m.view).view p h)

-- ---- a tick ----

-- the polls and installs that a site sends again
abbrev pub forming_repeats : ℕ → SiteView → Option InEpoch → List Packet
forming_repeats me v None = poll_repeats me v v.round
forming_repeats me v (Some e) = poll_repeats me v v.round ++ install_repeats me v e

repeats_every : (N : Packet → Type 0) (c : Config) (me : ℕ) (v : SiteView) (o : Option InEpoch) → ((p : Packet) → Formless p → N p) → Every N (forming_repeats me v o) → Every N (repeats_of c me o v)
repeats_every N c me v None f h = order_sent N (poll_repeats me v v.round) h
repeats_every N c me v (Some e) f h = every_append N (in_order (poll_repeats me v v.round ++ install_repeats me v e)) (repeats_inside (frame_in c me v.boot e) e v) (order_sent N (poll_repeats me v v.round ++ install_repeats me v e) h)
    (every_weaker Formless N (repeats_inside (frame_in c me v.boot e) e v) f (inside_formless (frame_in c me v.boot e) e v))

repeats_has : (c : Config) (me : ℕ) (v : SiteView) (o : Option InEpoch) (p : Packet) → Among p (forming_repeats me v o) → Among p (repeats_of c me o v)
repeats_has c me v None p h = order_has p (poll_repeats me v v.round) h
repeats_has c me v (Some e) p h = among_left p (in_order (poll_repeats me v v.round ++ install_repeats me v e)) _ (order_has p (poll_repeats me v v.round ++ install_repeats me v e) h)

pub ticks_formed : (c : Config) (me : ℕ) (links : Links) (v : SiteView) → Every TableFormless v.tables →
    SameCore v (adopts_in c me v).view × Formed c me links (sends (forming_repeats me (adopts_in c me v).view (adopts_in c me v).view.epoch) (adopts_in c me v).view) (ticks_after c me links (adopts_in c me v))
ticks_formed c me links v ok =
    let a : Outcome SiteView = adopts_in c me v in
    let f : FormlessSite v a = adopts_of_formless c me v.epoch v ok in
    let last : Outcome SiteView = ends_event c me links a.view in (
      inner_core v a f (adopts_of_inner c me v.epoch v refl),
      record {
        mid = a.view;
        mid_is = same_core a.view;
        view = ends_core c me links a.view f.tables;
        every = λ N g h k. every_append N a.sent (repeats c me a.view ++ in_order last.sent) (every_weaker Formless N a.sent g f.still.0)
            (every_append N (repeats c me a.view) (in_order last.sent) (repeats_every N c me a.view a.view.epoch g h) (order_sent N last.sent (ends_every N c me links a.view f.tables g k)));
        has = λ p h. among_right p a.sent (repeats c me a.view ++ in_order last.sent) (either p h);
      },
    )
  where
    either : (p : Packet) → Among p (forming_repeats me (adopts_in c me v).view (adopts_in c me v).view.epoch) ⊎ Among p (passes_over c me links (adopts_in c me v).view).sent → Among p (repeats c me (adopts_in c me v).view ++ in_order (ends_event c me links (adopts_in c me v).view).sent)
    either p (inl h) = among_left p (repeats c me (adopts_in c me v).view) _ (repeats_has c me (adopts_in c me v).view (adopts_in c me v).view.epoch p h)
    either p (inr h) = among_right p (repeats c me (adopts_in c me v).view) _ (order_has p (ends_event c me links (adopts_in c me v).view).sent (ends_has c me links (adopts_in c me v).view p h))
