use Rattle.template_trees.proofs.WorkedTemplates as computed
use Rattle.template_trees.proofs.worked.worked_templates.Goals as goal

pub returns : goal.returns
returns c = record {
  default = computed.default;
  no_nodes = computed.no_nodes;
  front_page = computed.front_page;
  part = computed.part;
  part_in_a_page = computed.part_in_a_page;
  part_in_a_part = computed.part_in_a_part;
  loop_in_a_part = computed.loop_in_a_part;
  loops = computed.loops;
  loop_in_a_loop = computed.loop_in_a_loop;
  loop_in_an_else = computed.loop_in_an_else;
  null_else = computed.null_else;
  else_alone = computed.else_alone;
  third_key = computed.third_key;
  other_key = computed.other_key;
  second_key = computed.second_key;
  no_key = computed.no_key;
  unknown_tag = computed.unknown_tag;
  unknown_part = computed.unknown_part;
  number = computed.number;
  no_list = computed.no_list;
  null_body = computed.null_body;
  unknown_name = computed.unknown_name;
  no_action = computed.no_action;
  longest_action = computed.longest_action;
  longer_action = computed.longer_action;
  most_nodes = computed.most_nodes;
  too_many_nodes = computed.too_many_nodes;
  most_in_a_loop = computed.most_in_a_loop;
  too_many_in_a_loop = computed.too_many_in_a_loop;
  most_bytes = computed.most_bytes;
  too_many_bytes = computed.too_many_bytes;
}
