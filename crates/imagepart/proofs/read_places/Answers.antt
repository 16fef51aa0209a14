-- `imagepart::read_places` meets its contract.
use Prim.Native.Nat.{◌+◌, ◌*◌}
use borrow.Author.Rules.{rules}
use Rattle.sheet.specs.Sheet.{no_point}
use Rattle.imagepart.specs.Parts.{place_in, places_in}
use Rattle.imagepart.proofs.Copies.{tabled_is}
use Rattle.imagepart.proofs.read_places.Goals as goal

pub returns : goal.returns
unfolding places_in
returns c = tabled_is _ (λ k. place_in c.args.bytes.now (c.args.from + k * 72)) _ (λ q i y k. search rules) 8 _ c.from_fn.ensures.items no_point
