-- 01, Bench examples: the tables hold, by computation alone.
use mathlib.Core.Path.{refl}
use Rattle.rules.specs.Lists.{pick, value_or, is_some, keep, all, join_all, has, same_bytes, begins_with, onto_first, split_on, le, be, from_le, from_be, lower}
use Rattle.rules.specs.Kinds.{lines_of, blank, before_stripped, strip, ignored, kind_of, common, meanings, field_count, default_ttl, field_at}
use Rattle.rules.specs.Names.{name_byte, label, longest_name, if_not_too_long, name_from, name_of, wire_in, wire_of, labels, is_wire}
use Rattle.rules.specs.Fields.{digit, decimal_from, number_of, largest_ttl, largest_short, largest_long, lower_hex_digit, hex_value, hex_from, group, group_bytes, first_is_zero, octet, address_if, octet_byte, address_of, prefix_of, time_of, letter, lo_of, octal, onto_text, text_of, unless, name_fault, needed, optional, reserved, type_fault, fault_of}
use Rattle.rules.specs.Records.{lo_bytes, number_or, short_at, long_at, shared_of, resource_of, host_name, ns, mx, srv, hostmaster, contact_of, joined_names, decimal, decimal_label, hex_digit, nibble_labels, in_addr_arpa, ip6_arpa, reverse_name, chunks_from, chunks, soa_data, srv_data, address_type, address_records, soa_shared, address_in, records_of}
use Rattle.rules.specs.Bytes.{wild, unstarred, key_of, flag_and_lo, rdata_of, fixed_of, data_of, encode, size, size_of_all, bytes_of}
use Rattle.rules.specs.Answers.{numbers_of, is_done, no_fault, then_fault, fields_fault, joined_fault, whole_line, kind_fault, stripped_fault, longest_line, line_fault, is_good, stripped_records, line_records, longest_source, source_records, answer, judge_lines, judge_source, if_room, compile_answer, compile_output}
use Rattle.rules.specs.Questions.{placed_from, matches, better, best_of, location_of, in_time, visible, lifetime_of, ordinary_of, wildcard_of, ancestors_from, ancestors, ancestors_to, first_full, level, of_type, ordinary_of_type, is_full, control_of, by_level, in_zone, by_control, answers}
use Rattle.rules.specs.Reading.{lowered, ordinary_key, wildcard_key, is_lo, moment_end, behind_lo, with_lo, by_flag, resource_in, location_in, record_in, onto_records, decode_one, decode_from, decode, response_numbers, type_of, reply_of, response_of, response_from, refusal, response_decoded, is_client, ask_response}
use Rattle.rules.specs.Bench.{Case, Said, source_of, rdata_at, tell, said, wire, lengths, plain, day, three_days, soa_ttl, accepted, no_more, only, compiled, refused_with, compile, asking, table, example, button, panic, heaven, mx_heaven, ns_heaven, service, service_host, soa_numbers, zone, changeover, expected, BenchHolds}
use Rattle.rules.specs.Examples.{refusals, refusal_cases, refusals_expected, documentation, documentation_name, unasked, refused_ask, examples, examples_expected, ExamplesHold}
use Rattle.rules.specs.OutcomeExamples.{told_from, told_of, asks, row, found, none, one, nothing, town, referral, from, at, starts, ends, two_sides, other_soas, delegated, rows, OutcomeExamplesHold}
use Rattle.rules.specs.Joining.{ended, ended_but_last, closed, joined_files}
use Rattle.rules.specs.JoiningExamples.{joined, said_of, north, south, joined_rows, joined_bytes, JoiningExamplesHold}

-- what the rules say of a case; whoever unfolds this unfolds the rules, which its line names
unfoldable pub saying : Case → Said
unfolding pick value_or is_some keep all join_all has same_bytes begins_with onto_first split_on le be from_le from_be lower lines_of blank before_stripped strip ignored kind_of common meanings field_count default_ttl field_at name_byte label longest_name if_not_too_long name_from name_of wire_in wire_of labels is_wire digit decimal_from number_of largest_ttl largest_short largest_long lower_hex_digit hex_value hex_from group group_bytes first_is_zero octet address_if octet_byte address_of prefix_of time_of letter lo_of octal onto_text text_of unless name_fault needed optional reserved type_fault fault_of lo_bytes number_or short_at long_at shared_of resource_of host_name ns mx srv hostmaster contact_of joined_names decimal decimal_label hex_digit nibble_labels in_addr_arpa ip6_arpa reverse_name chunks_from chunks soa_data srv_data address_type address_records soa_shared address_in records_of wild unstarred key_of flag_and_lo rdata_of fixed_of data_of encode size size_of_all bytes_of numbers_of is_done no_fault then_fault fields_fault joined_fault whole_line kind_fault stripped_fault longest_line line_fault is_good stripped_records line_records longest_source source_records answer judge_lines judge_source if_room compile_answer compile_output placed_from matches better best_of location_of in_time visible lifetime_of ordinary_of wildcard_of ancestors_from ancestors ancestors_to first_full level of_type ordinary_of_type is_full control_of by_level in_zone by_control answers lowered ordinary_key wildcard_key is_lo moment_end behind_lo with_lo by_flag resource_in location_in record_in onto_records decode_one decode_from decode response_numbers type_of reply_of response_of response_from refusal response_decoded is_client ask_response said source_of tell rdata_at
saying c = said c

pub bench_holds : BenchHolds
unfolding saying wire lengths plain day three_days soa_ttl accepted no_more only compiled refused_with compile asking table example button panic heaven mx_heaven ns_heaven service service_host soa_numbers zone changeover expected BenchHolds
bench_holds = refl

pub examples_hold : ExamplesHold
unfolding saying wire lengths plain day three_days soa_ttl accepted no_more only compiled refused_with compile asking example button panic heaven mx_heaven ns_heaven service service_host soa_numbers zone changeover refusals refusal_cases refusals_expected documentation documentation_name unasked refused_ask examples examples_expected ExamplesHold
examples_hold = refl

pub outcome_examples_hold : OutcomeExamplesHold
unfolding saying wire told_from told_of asks row found none one nothing town referral from at starts ends two_sides other_soas delegated rows OutcomeExamplesHold
outcome_examples_hold = refl

pub joining_examples_hold : JoiningExamplesHold
unfolding saying ended ended_but_last closed joined_files joined said_of north south joined_rows joined_bytes
joining_examples_hold = record { answers = refl; bytes = refl; ends = refl }
