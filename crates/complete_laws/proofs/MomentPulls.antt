-- What a site pulls once it has taken a packet may be kept there once it is complete.
use Rattle.std.proofs.Common.{◌≡◌, ℕ, Bool, true, false, List, [], ◌∷◌, ◌++◌, Option, None, Some, refl, sym, subst}
use Rattle.locus_ids.specs.declared.config.Config.{Config}
use Rattle.locus_ids.specs.declared.ids.FileId.{FileId}
use Rattle.locus_ids.specs.declared.ids.Stamp.{Stamp}
use Rattle.commit_graph.specs.Versions.{same_stamp}
use Rattle.wire_messages.specs.declared.body.Body.{Body}
use Rattle.wire_messages.specs.declared.body.Body.TheVariants as body
use Rattle.wire_messages.specs.declared.packet.Packet.{Packet}
use Rattle.role_steps.specs.Epochs.{frame_in}
use Rattle.role_steps.specs.Own.{Every}
use Rattle.role_steps.specs.Pulling.{begins_pull, goes_on, is_awaited, is_delta, on_delta, on_delta_of, on_notify, on_page, on_page_of, pages_in, pull_key, pull_of, pull_over, replaces_pull}
use Rattle.role_steps.specs.Storage.{copy_of}
use Rattle.role_steps.specs.Versions.{is_below}
use Rattle.role_steps.specs.Views.{Frame, Outcome, SiteView, file_key, packet, quiet, sends}
use Rattle.role_steps.specs.declared.copies.FileCopy.{FileCopy}
use Rattle.role_steps.specs.declared.pulls.Pull.{Pull}
use Rattle.role_steps.specs.declared.rounds.InEpoch.{InEpoch}
use Rattle.the_run.specs.Steps.{is_dropped, takes_framed, takes_inside}
use Rattle.the_run.specs.Worlds.{Line}
use Rattle.role_steps.proofs.Fitting.{over_any}
use Rattle.the_run.proofs.InsideSync.{every_row}
use Rattle.packet_laws.specs.of_site_laws.Packs.Packed.{BodyPacked, PullPacked}
use Rattle.packet_laws.specs.of_store_laws.OneTree.Places.{SiteFact, SiteIn}
use Rattle.packet_laws.specs.of_store_laws.OneTree.Rest.{Past}
use Rattle.packet_laws.specs.of_store_laws.OneTree.Roles.{RolesDo}
use Rattle.packet_laws.specs.of_store_laws.OneTree.Wants.{Arrives}
use Rattle.packet_laws.proofs.of_store_laws.OneTree.Rising.{every_among, row_key}
use Rattle.calm_laws.specs.of_rest_laws.Fits.Pulling.{FitsPull}
use Rattle.calm_laws.proofs.of_rest_laws.Fits.Pulling.{pulls_fit}
use Rattle.calm_laws.proofs.of_rest_laws.Fits.Tried.{IsTried, tried_view}

module _ (P : Pull → Type 0) where
  begins : (f : Frame) (own : Option FileCopy) (p : Pull) (ps : List Pull) → P (pull_over own p) → Every P ps → Every P (begins_pull f own p ps).view
  begins f own p ps k h = over (replaces_pull own p (pull_of ps p.file))
    where
      over : (b : Bool) → Every P (elim b as (λ (x : Bool). Outcome (List Pull)) [ true ↦ goes_on f (pull_over own p) ps | false ↦ quiet ps ]).view
      over true = every_row P pull_key (pull_over own p) ps k h
      over false = h

  notified : (f : Frame) (from : ℕ) (own : Option FileCopy) (p : Pull) (ps : List Pull) → ((base : Option Stamp) (wanted : Option (List ℕ)) → P (record p { base = base; wanted = wanted })) → Every P ps → Every P (on_notify f from own p ps).view
  notified f from None p ps k h = begins f None p ps (over_any P None p k) h
  notified f from (Some own) p ps k h = over (same_stamp own.stamp p.stamp) (is_below own.vector p.vector)
    where
      over : (a b : Bool) → Every P (elim a as (λ (x : Bool). Outcome (List Pull)) [ true ↦ sends (packet f from (body.Have p.file p.stamp) ∷ []) ps | false ↦ elim b as (λ (y : Bool). Outcome (List Pull)) [ true ↦ begins_pull f (Some own) p ps | false ↦ quiet ps ] ]).view
      over true b = h
      over false true = begins f (Some own) p ps (over_any P (Some own) p k) h
      over false false = h

  -- another content is as good
  paged : (f : Frame) (file : FileId) (stamp : Stamp) (page : ℕ) (bytes : List ℕ) (ps : List Pull) → ((p : Pull) → P p → P (record p { content = p.content ++ bytes })) → Every P ps → Every P (on_page f file stamp page bytes ps).view
  paged f file stamp page bytes ps more h = over (pull_of ps file) refl
    where
      at : (p : Pull) → P p → (b : Bool) → Every P (elim b as (λ (x : Bool). Outcome (List Pull)) [ true ↦ goes_on f (record p { content = p.content ++ bytes }) ps | false ↦ quiet ps ]).view
      at p k true = every_row P pull_key (record p { content = p.content ++ bytes }) ps (more p k) h
      at p k false = h

      over : (o : Option Pull) → pull_of ps file ≡ o → Every P (on_page_of f stamp page bytes o ps).view
      over None e = h
      over (Some p) e = at p (every_among P p ps (row_key pull_key (file_key file) ps p e).0 h) (is_awaited p stamp page bytes)

  -- so are other pages to pull
  told : (f : Frame) (own : Option FileCopy) (file : FileId) (stamp : Stamp) (pages : List ℕ) (ps : List Pull) → ((p : Pull) → P p → P (record p { wanted = Some pages })) → Every P ps → Every P (on_delta f own file stamp pages ps).view
  told f own file stamp pages ps more h = over (pull_of ps file) refl
    where
      at : (p : Pull) → P p → (b : Bool) → Every P (elim b as (λ (x : Bool). Outcome (List Pull)) [ true ↦ goes_on f (record p { wanted = Some pages }) ps | false ↦ quiet ps ]).view
      at p k true = every_row P pull_key (record p { wanted = Some pages }) ps (more p k) h
      at p k false = h

      over : (o : Option Pull) → pull_of ps file ≡ o → Every P (on_delta_of f (pages_in own) stamp pages o ps).view
      over None e = h
      over (Some p) e = at p (every_among P p ps (row_key pull_key (file_key file) ps p e).0 h) (is_delta (pages_in own) p stamp pages)

module _ (c : Config) (t : List Line) (past : Past c t) where
  -- of a site as it stands
  pub site_pulls : (me : ℕ) (v : SiteView) → SiteFact c me t v → Every (PullPacked c me) v.pulls → Every (FitsPull c me v.store) v.pulls
  site_pulls me v fact packed = over v.epoch fact
    where
      over : (o : Option InEpoch) → SiteIn c me t v o → Every (FitsPull c me v.store) v.pulls
      over None k = subst (Every (FitsPull c me v.store)) (sym k.pulls) tt
      over (Some e) k = pulls_fit c t past (frame_in c me v.boot e) v.store k.store v.pulls k.pulls packed

  module _ (roles : RolesDo c) (p : Packet) (v : SiteView) (fact : SiteFact c p.to t v) (comes : Arrives c t p v) (taken : is_dropped p v ≡ false) (here : BodyPacked c p.from p.to p.body) (packed : Every (PullPacked c p.to) v.pulls) where
    framed_packed : (b : Body) → p.body ≡ b → ((f : Frame) → f.me ≡ p.to → Every (PullPacked c p.to) (takes_inside f p.from b v).view.pulls) → (o : Option InEpoch) → Every (PullPacked c p.to) (takes_framed c p.to p o v).view.pulls
    framed_packed b is k None = packed
    framed_packed b is k (Some e) = subst (λ (x : Body). Every (PullPacked c p.to) (takes_inside (frame_in c p.to v.boot e) p.from x v).view.pulls) (sym is) (k (frame_in c p.to v.boot e) refl)

    -- at a Notify, a Page and a Delta
    view_packed : (b : Body) → p.body ≡ b → IsTried b → Every (PullPacked c p.to) (takes_framed c p.to p v.epoch v).view.pulls
    view_packed (body.Notify file kind set size stamp vector holder) is tried = framed_packed (body.Notify file kind set size stamp vector holder) is
        (λ f e. notified (PullPacked c p.to) f p.from (copy_of v.store file) (record { file = file; kind = kind; set = set; size = size; stamp = stamp; vector = vector; holder = holder; base = None; wanted = None; content = [] }) v.pulls (λ base wanted. subst (BodyPacked c p.from p.to) is here) packed) v.epoch
    view_packed (body.Page file stamp page bytes) is tried = framed_packed (body.Page file stamp page bytes) is (λ f e. paged (PullPacked c p.to) f file stamp page bytes v.pulls (λ q k. k) packed) v.epoch
    view_packed (body.Delta file wanted pages) is tried = framed_packed (body.Delta file wanted pages) is (λ f e. told (PullPacked c p.to) f (copy_of v.store file) file wanted pages v.pulls (λ q k. k) packed) v.epoch
    view_packed _ is tried = absurd tried

    pub tried_pulls : (b : Body) → p.body ≡ b → IsTried b → Every (FitsPull c p.to (takes_framed c p.to p v.epoch v).view.store) (takes_framed c p.to p v.epoch v).view.pulls
    tried_pulls b is tried = site_pulls p.to (takes_framed c p.to p v.epoch v).view (tried_view c roles t past p v fact comes taken b is tried) (view_packed b is tried)
