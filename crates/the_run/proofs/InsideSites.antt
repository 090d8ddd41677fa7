-- What a site does in its epoch is plain: it joins nothing, and leaves its round, its promised id and its epoch.
use Rattle.std.proofs.Common.{ℕ, Option}
use Rattle.locus_ids.specs.declared.config.Config.{Config}
use Rattle.role_steps.specs.of_wire_messages.declared.packet.Packet.{Packet}
use Rattle.role_steps.specs.of_wire_messages.declared.body.Body.{Body}
use Rattle.role_steps.specs.Own.{Every}
use Rattle.role_steps.specs.Views.{SiteView, Outcome}
use Rattle.role_steps.specs.Epochs.{frame_in}
use Rattle.role_steps.specs.declared.rounds.InEpoch.{InEpoch}
use Rattle.the_run.specs.Steps.{takes_framed, adopts_of, tries_at, starts_mends_of}
use Rattle.the_run.specs.Joins.{TableOk, Plain}
use Rattle.the_run.specs.KindLaws.{Stays}
use Rattle.the_run.proofs.SiteWalks.{adopts_of_walk, tries_walk, mends_of_walk, framed_walk}
use Rattle.the_run.proofs.InsideSync.{joins_nothing, plain_keeps, plain_answers}

stays_plain : (v : SiteView) (o : Outcome SiteView) → Stays joins_nothing v o → Plain v o
stays_plain v o h = record { boot = h.leaves.boot; round = h.leaves.round; promised = h.leaves.promised; epoch = h.leaves.epoch; tables = h.tables; still = h.part }

pub adopts_of_plain : (c : Config) (me : ℕ) (e : Option InEpoch) (v : SiteView) → Every TableOk v.tables → Plain v (adopts_of c me e v)
adopts_of_plain c me e v ok = stays_plain v (adopts_of c me e v) (adopts_of_walk joins_nothing c me e v tt (λ x is. plain_keeps (frame_in c me v.boot x)) ok)

pub tries_plain : (c : Config) (me : ℕ) (x : Body) (v : SiteView) → Every TableOk v.tables → Plain v (tries_at c me x v)
tries_plain c me x v ok = stays_plain v (tries_at c me x v) (tries_walk joins_nothing c me x v tt (λ e is. plain_keeps (frame_in c me v.boot e)) ok)

pub mends_of_plain : (c : Config) (me : ℕ) (e : Option InEpoch) (v : SiteView) → Every TableOk v.tables → Plain v (starts_mends_of c me e v)
mends_of_plain c me e v ok = stays_plain v (starts_mends_of c me e v) (mends_of_walk joins_nothing c me e v tt (λ x is. plain_keeps (frame_in c me v.boot x)) ok)

pub framed_plain : (c : Config) (me : ℕ) (p : Packet) (e : Option InEpoch) (v : SiteView) → Every TableOk v.tables → Plain v (takes_framed c me p e v)
framed_plain c me p e v ok = stays_plain v (takes_framed c me p e v) (framed_walk joins_nothing c me p e v tt (λ x is. plain_keeps (frame_in c me v.boot x)) (λ x is. plain_answers (frame_in c me v.boot x) p.from) ok)
