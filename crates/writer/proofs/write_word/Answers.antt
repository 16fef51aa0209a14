-- `write_word` meets its contract: the word stands in place of as many bytes.
use Rattle.std.proofs.Common.{◌≡◌, ◌+◌, ◌-◌, arith}
use lib.ListN.{length}
use borrow.Rule.Slice.PartMut.{put_mid}
use Rattle.equivalence.specs.Lent.{laid, written}
use Rattle.equivalence.proofs.Laying.{laid_length}
use Rattle.writer.proofs.write_word.Goals as goal

pub returns : goal.returns
unfolding laid written
returns c =
    let put = c.args.put in
    let word = c.args.word.now in
    let lent = c.args.out.now in
    let n : put + length word - put ≡ length word = omega arith in
    let e : put_mid put (put + length word - put) lent c.copy_from_slice.new.self ≡ laid lent put word = rw (n, c.copy_from_slice.ensures.after) in
    record { place = omega arith; within = c.requires; long = rw e (laid_length lent put word c.requires); bytes = e }
