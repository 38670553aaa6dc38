-- `records::marks::mark_number` meets its contract: in each arm the mark is a known one, whose place computes; in the last it is none of them.
use Rattle.std.proofs.Common.{sym, rules}
use Rattle.definition.specs.Grammar.{grammar, known, place}
use Rattle.records.proofs.Known.{place_is, place_none}
use Rattle.records.proofs.marks.mark_number.Goals as goal

pub returns-in-28493 : goal.returns-in-28493
unfolding grammar known place
returns-in-28493 c = place_is known c.in-28493.is

pub returns-in-28751 : goal.returns-in-28751
unfolding grammar known place
returns-in-28751 c = place_is known c.in-28751.is

pub returns-in-28494 : goal.returns-in-28494
unfolding grammar known place
returns-in-28494 c = place_is known c.in-28494.is

pub returns-in-27977 : goal.returns-in-27977
unfolding grammar known place
returns-in-27977 c = place_is known c.in-27977.is

pub returns-in-29779 : goal.returns-in-29779
unfolding grammar known place
returns-in-29779 c = place_is known c.in-29779.is

pub returns-in-25669 : goal.returns-in-25669
unfolding grammar known place
returns-in-25669 c = place_is known c.in-25669.is

pub returns-in-25688 : goal.returns-in-25688
unfolding grammar known place
returns-in-25688 c = place_is known c.in-25688.is

pub returns-in-25944 : goal.returns-in-25944
unfolding grammar known place
returns-in-25944 c = place_is known c.in-25944.is

pub returns-in-25670 : goal.returns-in-25670
unfolding grammar known place
returns-in-25670 c = place_is known c.in-25670.is

pub returns-in-25667 : goal.returns-in-25667
unfolding grammar known place
returns-in-25667 c = place_is known c.in-25667.is

pub returns-in-25686 : goal.returns-in-25686
unfolding grammar known place
returns-in-25686 c = place_is known c.in-25686.is

pub returns-in-29525 : goal.returns-in-29525
unfolding grammar known place
returns-in-29525 c = place_is known c.in-29525.is

pub returns-in-28229 : goal.returns-in-28229
unfolding grammar known place
returns-in-28229 c = place_is known c.in-28229.is

pub returns-in-29518 : goal.returns-in-29518
unfolding grammar known place
returns-in-29518 c = place_is known c.in-29518.is

pub returns-in-28233 : goal.returns-in-28233
unfolding grammar known place
returns-in-28233 c = place_is known c.in-28233.is

pub returns-in-31060 : goal.returns-in-31060
unfolding grammar known place
returns-in-31060 c = place_is known c.in-31060.is

pub returns-in-29270 : goal.returns-in-29270
unfolding grammar known place
returns-in-29270 c = place_is known c.in-29270.is

pub returns-in-27973 : goal.returns-in-27973
unfolding grammar known place
returns-in-27973 c = place_is known c.in-27973.is

pub returns-in-25166 : goal.returns-in-25166
unfolding grammar known place
returns-in-25166 c = place_is known c.in-25166.is

pub returns-in-25678 : goal.returns-in-25678
unfolding grammar known place
returns-in-25678 c = place_is known c.in-25678.is

pub returns-in-30022 : goal.returns-in-30022
unfolding grammar known place
returns-in-30022 c = place_is known c.in-30022.is

pub returns-in-24912 : goal.returns-in-24912
unfolding grammar known place
returns-in-24912 c = place_is known c.in-24912.is

pub returns-in-28752 : goal.returns-in-28752
unfolding grammar known place
returns-in-28752 c = place_is known c.in-28752.is

pub returns-in-27715 : goal.returns-in-27715
unfolding grammar known place
returns-in-27715 c = place_is known c.in-27715.is

pub returns-in-28483 : goal.returns-in-28483
unfolding grammar known place
returns-in-28483 c = place_is known c.in-28483.is

pub returns-in-25933 : goal.returns-in-25933
unfolding grammar known place
returns-in-25933 c = place_is known c.in-25933.is

pub returns-in-28739 : goal.returns-in-28739
unfolding grammar known place
returns-in-28739 c = place_is known c.in-28739.is

pub returns-in-27972 : goal.returns-in-27972
unfolding grammar known place
returns-in-27972 c = place_is known c.in-27972.is

pub returns-in-30793 : goal.returns-in-30793
unfolding grammar known place
returns-in-30793 c = place_is known c.in-30793.is

pub returns-in-29520 : goal.returns-in-29520
unfolding grammar known place
returns-in-29520 c = place_is known c.in-29520.is

pub returns-in-27983 : goal.returns-in-27983
unfolding grammar known place
returns-in-27983 c = place_is known c.in-27983.is

pub returns-in-25168 : goal.returns-in-25168
unfolding grammar known place
returns-in-25168 c = place_is known c.in-25168.is

pub returns-in-28496 : goal.returns-in-28496
unfolding grammar known place
returns-in-28496 c = place_is known c.in-28496.is

pub returns-in-25666 : goal.returns-in-25666
unfolding grammar known place
returns-in-25666 c = place_is known c.in-25666.is

pub returns-in-26433 : goal.returns-in-26433
unfolding grammar known place
returns-in-26433 c = place_is known c.in-26433.is

pub returns-in-29522 : goal.returns-in-29522
unfolding grammar known place
returns-in-29522 c = place_is known c.in-29522.is

pub returns-in-25936 : goal.returns-in-25936
unfolding grammar known place
returns-in-25936 c = place_is known c.in-25936.is

pub returns-in-26960 : goal.returns-in-26960
unfolding grammar known place
returns-in-26960 c = place_is known c.in-26960.is

pub returns-in-26955 : goal.returns-in-26955
unfolding grammar known place
returns-in-26955 c = place_is known c.in-26955.is

pub returns-in-25419 : goal.returns-in-25419
unfolding grammar known place
returns-in-25419 c = place_is known c.in-25419.is

pub returns-in-29523 : goal.returns-in-29523
unfolding grammar known place
returns-in-29523 c = place_is known c.in-29523.is

pub returns-in-30030 : goal.returns-in-30030
unfolding grammar known place
returns-in-30030 c = place_is known c.in-30030.is

pub returns-in-26946 : goal.returns-in-26946
unfolding grammar known place
returns-in-26946 c = place_is known c.in-26946.is

pub returns-in-27714 : goal.returns-in-27714
unfolding grammar known place
returns-in-27714 c = place_is known c.in-27714.is

pub returns-in-27726 : goal.returns-in-27726
unfolding grammar known place
returns-in-27726 c = place_is known c.in-27726.is

pub returns-in-25938 : goal.returns-in-25938
unfolding grammar known place
returns-in-25938 c = place_is known c.in-25938.is

pub returns-in-29770 : goal.returns-in-29770
unfolding grammar known place
returns-in-29770 c = place_is known c.in-29770.is

pub returns-in-25673 : goal.returns-in-25673
unfolding grammar known place
returns-in-25673 c = place_is known c.in-25673.is

pub returns-in-29249 : goal.returns-in-29249
unfolding grammar known place
returns-in-29249 c = place_is known c.in-29249.is

pub returns-in-25167 : goal.returns-in-25167
unfolding grammar known place
returns-in-25167 c = place_is known c.in-25167.is

pub returns-in-30790 : goal.returns-in-30790
unfolding grammar known place
returns-in-30790 c = place_is known c.in-30790.is

pub returns-in-30787 : goal.returns-in-30787
unfolding grammar known place
returns-in-30787 c = place_is known c.in-30787.is

pub returns-in-30529 : goal.returns-in-30529
unfolding grammar known place
returns-in-30529 c = place_is known c.in-30529.is

pub returns-in-25940 : goal.returns-in-25940
unfolding grammar known place
returns-in-25940 c = place_is known c.in-25940.is

pub returns-in-26957 : goal.returns-in-26957
unfolding grammar known place
returns-in-26957 c = place_is known c.in-26957.is

pub returns-in-24899 : goal.returns-in-24899
unfolding grammar known place
returns-in-24899 c = place_is known c.in-24899.is

pub returns-in-25934 : goal.returns-in-25934
unfolding grammar known place
returns-in-25934 c = place_is known c.in-25934.is

pub returns-in-25165 : goal.returns-in-25165
unfolding grammar known place
returns-in-25165 c = place_is known c.in-25165.is

pub returns-in-28226 : goal.returns-in-28226
unfolding grammar known place
returns-in-28226 c = place_is known c.in-28226.is

pub returns-in-25423 : goal.returns-in-25423
unfolding grammar known place
returns-in-25423 c = place_is known c.in-25423.is

pub returns-in-25428 : goal.returns-in-25428
unfolding grammar known place
returns-in-25428 c = place_is known c.in-25428.is

pub returns-in-28238 : goal.returns-in-28238
unfolding grammar known place
returns-in-28238 c = place_is known c.in-28238.is

pub returns-in-29264 : goal.returns-in-29264
unfolding grammar known place
returns-in-29264 c = place_is known c.in-29264.is

pub returns-in-29505 : goal.returns-in-29505
unfolding grammar known place
returns-in-29505 c = place_is known c.in-29505.is

pub returns-in-29524 : goal.returns-in-29524
unfolding grammar known place
returns-in-29524 c = place_is known c.in-29524.is

pub returns-in-24916 : goal.returns-in-24916
unfolding grammar known place
returns-in-24916 c = place_is known c.in-24916.is

pub returns-in-25935 : goal.returns-in-25935
unfolding grammar known place
returns-in-25935 c = place_is known c.in-25935.is

pub returns-in-28755 : goal.returns-in-28755
unfolding grammar known place
returns-in-28755 c = place_is known c.in-28755.is

pub returns-in-30283 : goal.returns-in-30283
unfolding grammar known place
returns-in-30283 c = place_is known c.in-30283.is

pub returns-in-26707 : goal.returns-in-26707
unfolding grammar known place
returns-in-26707 c = place_is known c.in-26707.is

pub returns-in-29008 : goal.returns-in-29008
unfolding grammar known place
returns-in-29008 c = place_is known c.in-29008.is

pub returns-in-30033 : goal.returns-in-30033
unfolding grammar known place
returns-in-30033 c = place_is known c.in-30033.is

pub returns-in-27988 : goal.returns-in-27988
unfolding grammar known place
returns-in-27988 c = place_is known c.in-27988.is

pub returns-in-30539 : goal.returns-in-30539
unfolding grammar known place
returns-in-30539 c = place_is known c.in-30539.is

pub returns-in-27732 : goal.returns-in-27732
unfolding grammar known place
returns-in-27732 c = place_is known c.in-27732.is

pub returns-in-26194 : goal.returns-in-26194
unfolding grammar known place
returns-in-26194 c = place_is known c.in-26194.is

pub returns-in-26196 : goal.returns-in-26196
unfolding grammar known place
returns-in-26196 c = place_is known c.in-26196.is

pub returns-in-26956 : goal.returns-in-26956
unfolding grammar known place
returns-in-26956 c = place_is known c.in-26956.is

pub returns-in-31041 : goal.returns-in-31041
unfolding grammar known place
returns-in-31041 c = place_is known c.in-31041.is

pub returns-in-30036 : goal.returns-in-30036
unfolding grammar known place
returns-in-30036 c = place_is known c.in-30036.is

pub returns-in-29778 : goal.returns-in-29778
unfolding grammar known place
returns-in-29778 c = place_is known c.in-29778.is

pub returns-in-28498 : goal.returns-in-28498
unfolding grammar known place
returns-in-28498 c = place_is known c.in-28498.is

pub returns-in-29766 : goal.returns-in-29766
unfolding grammar known place
returns-in-29766 c = place_is known c.in-29766.is

pub returns-in-29763 : goal.returns-in-29763
unfolding grammar known place
returns-in-29763 c = place_is known c.in-29763.is

pub returns-in-29775 : goal.returns-in-29775
unfolding grammar known place
returns-in-29775 c = place_is known c.in-29775.is

pub returns-in_default : goal.returns-in_default
unfolding grammar known place
returns-in_default c = sym (place_none Unit known c.args.mark (search rules))
