-- `numberreader::begins_with` meets its contract, by the laws of Words.
use Rattle.numberreader.proofs.Words.{matched_none, matched_not, matched_more, matched_all}
use Rattle.numberreader.proofs.begins_with.Goals as goal

pub loop-i-init : goal.loop-i-init
loop-i-init c = search matched_none

pub returns-then-byte_at-b : goal.returns-then-byte_at-b
returns-then-byte_at-b c = search matched_not

pub loop-i-preserved : goal.loop-i-preserved
loop-i-preserved c = search matched_more

pub returns : goal.returns
returns c = search matched_all
