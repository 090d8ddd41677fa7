-- What a site does inside its epoch leaves all that agreement on an epoch needs: the walk of the law that asks nothing.
use Rattle.std.proofs.Common.{ℕ, Option}
use Rattle.locus_ids.specs.declared.config.Config.{Config}
use Rattle.the_run.specs.of_wire_messages.declared.packet.Packet.{Packet}
use Rattle.the_run.specs.of_wire_messages.declared.body.Body.{Body}
use Rattle.the_run.specs.of_role_steps.Views.{Frame, SiteView}
use Rattle.the_run.specs.of_role_steps.Epochs.{frame_in}
use Rattle.the_run.specs.of_role_steps.declared.rounds.InEpoch.{InEpoch}
use Rattle.the_run.specs.Steps.{takes_framed, adopts_of, tries_at, starts_mends_of}
use Rattle.the_run.specs.KindLaws.{Law, frame_law, SiteKeeps, Leaves}
use Rattle.the_run.proofs.Premises.{every_unit, frame_keeps, frame_answers}
use Rattle.the_run.proofs.SiteWalks.{adopts_of_walk, tries_walk, mends_of_walk, framed_walk}

abbrev asks_nothing : Law
asks_nothing = frame_law (λ p. Unit {0}) (λ t. Unit {0}) (λ w. Unit {0})

keeps : (f : Frame) → SiteKeeps asks_nothing f
keeps f = frame_keeps (λ p. Unit {0}) (λ t. Unit {0}) (λ w. Unit {0}) f (λ to b. tt) (λ t h. tt) (λ r h. tt) tt (λ d h. tt)

pub adopts_of_leaves : (c : Config) (me : ℕ) (e : Option InEpoch) (v : SiteView) → Leaves v (adopts_of c me e v).view
adopts_of_leaves c me e v = (adopts_of_walk asks_nothing c me e v tt (λ x is. keeps (frame_in c me v.boot x)) (every_unit v.tables)).leaves

pub tries_leaves : (c : Config) (me : ℕ) (x : Body) (v : SiteView) → Leaves v (tries_at c me x v).view
tries_leaves c me x v = (tries_walk asks_nothing c me x v tt (λ e is. keeps (frame_in c me v.boot e)) (every_unit v.tables)).leaves

pub mends_of_leaves : (c : Config) (me : ℕ) (e : Option InEpoch) (v : SiteView) → Leaves v (starts_mends_of c me e v).view
mends_of_leaves c me e v = (mends_of_walk asks_nothing c me e v tt (λ x is. keeps (frame_in c me v.boot x)) (every_unit v.tables)).leaves

pub framed_leaves : (c : Config) (me : ℕ) (p : Packet) (e : Option InEpoch) (v : SiteView) → Leaves v (takes_framed c me p e v).view
framed_leaves c me p e v =
    (framed_walk asks_nothing c me p e v tt (λ x is. keeps (frame_in c me v.boot x)) (λ x is. frame_answers (λ p. Unit {0}) (λ t. Unit {0}) (λ w. Unit {0}) (frame_in c me v.boot x) (λ to b. tt) p.from) (every_unit v.tables)).leaves
