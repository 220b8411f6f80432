-- One segment as a machine: what is replied to each request, and what it leaves, for arbitrary facts.
use Rattle.std.specs.Prelude.{◌≡◌}
use Rattle.replica.specs.declared.requests.Request.{Request}
use Rattle.replica.specs.declared.requests.Request.TheVariants as request
use Rattle.replica.specs.declared.replies.Reply.{Reply}
use Rattle.replica.specs.Parts.{ReplicaData, SameBeside}
use Rattle.replica.specs.AtSegment.{Opens, Takes, Fronts, ReportsGap, ReportsStatus, Reads, Folds, Discards, TidiesUp, ReportsNext}
use Rattle.replica.specs.Gossiping.{Asks, TellsDelta, RepliesWithin, Absorbs}
use Rattle.replica.specs.Hydrating.{FreezesAs, Pieces, Stages, AddsTo, Finishes, EndsInUnion}

abbrev pub IsReply : ReplicaData → Request → Reply → ReplicaData → Type 0
IsReply old (request.Open roster) told new = Opens old.cached roster told new.cached × SameBeside old new
IsReply old (request.Take fact) told new = Takes old.cached fact told new.cached × SameBeside old new
IsReply old request.Front told new = Fronts old.cached.segment told × (new ≡ old)
IsReply old request.Gap told new = ReportsGap old.cached.segment told × (new ≡ old)
IsReply old request.State told new = ReportsStatus old.cached.segment told × (new ≡ old)
IsReply old (request.Read page point) told new = Reads old.cached page point told new.cached × SameBeside old new
IsReply old request.Ask told new = Asks old.cached.segment told × (new ≡ old)
IsReply old (request.Answer summary) told new = TellsDelta old.cached.segment summary told × (new ≡ old)
IsReply old (request.AnswerWithin summary most) told new = RepliesWithin old.cached.segment summary most told × (new ≡ old)
IsReply old (request.Absorb summary delta) told new = Absorbs old.cached summary delta told new.cached × SameBeside old new
IsReply old (request.Fold page) told new = Folds old.cached page told new.cached × SameBeside old new
IsReply old request.Discard told new = Discards old.cached told new.cached × SameBeside old new
IsReply old request.Tidy told new = TidiesUp old.cached told new.cached × SameBeside old new
IsReply old (request.Freeze name) told new =
    FreezesAs old.cached.segment name old.snapshot told new.snapshot × (new.cached ≡ old.cached) × (new.staging ≡ old.staging)
IsReply old (request.Piece index) told new = Pieces old.snapshot index told × (new ≡ old)
IsReply old (request.Stage name total) told new =
    Stages name total told new.staging × (new.cached ≡ old.cached) × (new.snapshot ≡ old.snapshot)
IsReply old (request.Add piece) told new =
    AddsTo old.staging piece told new.staging × (new.cached ≡ old.cached) × (new.snapshot ≡ old.snapshot)
IsReply old request.Finish told new = Finishes old.cached old.staging told new.cached new.staging × (new.snapshot ≡ old.snapshot)
IsReply old request.Unite told new = EndsInUnion old.cached old.staging told new.cached new.staging × (new.snapshot ≡ old.snapshot)
IsReply old (request.Next after) told new = ReportsNext old.cached.segment after told × (new ≡ old)
