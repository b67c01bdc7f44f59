use Rattle.std.proofs.Common.{map, subst}
use Rattle.leaf_book.specs.Book.{LeafSeatParts}
use Rattle.serve_run.specs.Workers.{Posted}
use Rattle.serve_run.proofs.Bringing.{all_fresh, brings_ok}
use Rattle.serve_run.proofs.serving.rows_of.Goals as goal

pub all_told-requires-clause-fresh : goal.all_told-requires-clause-fresh
all_told-requires-clause-fresh g c κs within =
    let posted = c.in_ok-posts.ensures in
    all_fresh c.args.server.now.book 0 c.in_ok-posts.posts.items posted.numbered

pub returns : goal.returns
returns g c =
    let posted = subst (λ (seat : LeafSeatParts). Posted c.args.server.now.book seat.share c.args.workers c.posts.new.seat c.in_ok-posts.posts.items) c.requires.seat c.in_ok-posts.ensures in
    brings_ok (λ rows. map (λ r. r.items) rows.items) c.args.service.now c.args.workers c.args.server.now.book c.posts.new.seat _ c.in_ok-posts.posts.items c.in_ok-all.all.items _ posted
    c.in_ok-all.ensures c.joined.ensures.seat c.joined.ensures.rows
